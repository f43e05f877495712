-- All through a part that serves it the job of a site stands in its course, or it has come to its end: its restart, its taking, or the question.
use Rattle.std.proofs.Common.{◌≡◌, ℕ, ◌+◌, ◌*◌, ◌≤◌, ◌&&◌, ◌||◌, not, Bool, true, false, ◌⊎◌, inl, inr, List, [], ◌∷◌, ◌++◌, Option, Some, None, is_none, refl, ap, ◌∙◌, sym, subst, arith, if◌then◌else◌}
use Rattle.std.proofs.lemmas.Bool.{and_parts}
use Rattle.xrf_base.specs.declared.site.Site.{Site}
use Rattle.xrf_trace.specs.Devices.{control}
use Rattle.xrf_trace.specs.declared.entry.Entry.{Entry}
use Rattle.xrf_trace.specs.declared.entry.Act.{Act}
use Rattle.xrf_trace.specs.Scenario.{Scen, IsScen, settings}
use Rattle.xrf_trace.specs.Landing.{is_in_full}
use Rattle.xrf_trace.specs.Words.{is_of, now, tick_after}
use Rattle.xrf_trace.specs.Acts.{next_act, is_act}
use Rattle.xrf_trace.specs.Runs.{IsRun}
use Rattle.xrf_progress.specs.Serving.{Serves, serves, speaks, is_tick, is_restart_of, has_restart, is_taking_write_of, has_taking_write, acts_of, is_asked_at, was_asked}
use Rattle.xrf_progress.proofs.Course.{Ground, Course}
use Rattle.xrf_progress.proofs.Decisions.{is_asking}
use Rattle.xrf_progress.proofs.Entries.{Keeps, ticked, silent, tick-is, no-ticks}
use Rattle.xrf_progress.proofs.Leading.{Same, course-few, tracking-few}
use Rattle.xrf_progress.proofs.Potential.{one_if, AreWhole}
use Rattle.xrf_progress.proofs.Restoring.{restart-few}
use Rattle.xrf_progress.proofs.Standing.{Stands, InCourse, InSignOn, InRestart, Stops, Next, same-after, tick-stands, silent-stands, own-stands, beside-quiet}

-- one for an act of the site
abbrev one_act : Site → Entry → ℕ
one_act x e = one_if (is_of e.who x)

-- After an entry that serves it: it has restarted; or it has stopped; or it stands on, with so much less left.
abbrev After : Scen → List Entry → Entry → Site → Ground → (n m : ℕ) → (sure : Bool) → (left : ℕ) → Type 0
After s t e x g n m sure left =
    ((sure ≡ true) × (is_restart_of x g.me e ≡ true))
    ⊎ (((sure ≡ false) × Stops s t e x g)
    ⊎ ((after : ℕ) × Same (e ∷ t) x g m × Stands s (e ∷ t) x g m sure after
    × (sure ≡ true → AreWhole (settings s x) → one_act x e + after + 7 * n ≤ left + 7 * m)))

-- after an act of its own
after-own : (s : Scen) (t : List Entry) (e : Entry) (x : Site) (g : Ground) (n : ℕ) (sure : Bool) (left : ℕ) → Same t x g n
    → Keeps t e x → is_of e.who x ≡ true → ((m : ℕ) → tick_after e.act m ≡ m) → Next s t e x g n sure left
    → After s t e x g n (tick_after e.act n) sure left
after-own s t e x g n sure left same keeps mine ticking (inl is) = inl is
after-own s t e x g n sure left same keeps mine ticking (inr (inl is)) = inr (inl is)
after-own s t e x g n sure left same keeps mine ticking (inr (inr on)) =
    subst (λ (m : ℕ). After s t e x g n m sure left) (sym (ticking n))
    (inr (inr (
      on.0,
      same-after t e x g n n keeps same (ticking (now t) ∙ same.at),
      on.1,
      λ is whole.
          let less = on.2 is whole in
          let counted : one_act x e ≡ 1 = ap one_if mine in
          omega (arith, less, counted),
    )))

-- what is none
pub none-is : (o : Option Act) → is_none o ≡ true → o ≡ None
none-is None is = refl
none-is (Some a) is = absurd (cc)

-- what is not so
pub not-is : (b : Bool) → not b ≡ true → b ≡ false
not-is true is = absurd (cc)
not-is false is = refl

-- **each entry that serves it leads on**
step : (s : Scen) (t : List Entry) (e : Entry) (x : Site) (g : Ground) (n : ℕ) (sure : Bool) (left : ℕ) → IsRun s (e ∷ t)
    → serves s t x e ≡ true → Same t x g n → Stands s t x g n sure left → After s t e x g n (tick_after e.act n) sure left
step s t e x g n sure left is served same stands = by (is_of e.who x) (is_tick e.act) refl refl served
  where
    by : (mine tick : Bool) → is_of e.who x ≡ mine → is_tick e.act ≡ tick
        → (if mine then is_act e.act && is_in_full e.land else (if tick then is_none (next_act s t x) else not (speaks e))) ≡ true
        → After s t e x g n (tick_after e.act n) sure left
    by true tick here ticking serving =
        let parts = and_parts (is_act e.act) (is_in_full e.land) serving in
        let found = own-stands s t e x g n sure left is here parts.0 parts.1 same stands in
        after-own s t e x g n sure left same found.1 here found.2 found.0
    by false true here ticking serving =
        let q = ticked s t e x here ticking in
        let later : (m : ℕ) → tick_after e.act m ≡ m + 1 = λ m. ap (λ (a : Act). tick_after a m) (tick-is e.act ticking) in
        subst (λ (m : ℕ). After s t e x g n m sure left) (sym (later n))
        (inr (inr (
          left + 7,
          same-after t e x g n (n + 1) q.keeps same (later (now t) ∙ ap (λ (m : ℕ). m + 1) same.at ∙ omega arith),
          tick-stands s t e x g n sure left here ticking (none-is (next_act s t x) serving) same stands,
          λ is whole. let counted : one_act x e ≡ 0 = ap one_if here in omega (arith, counted),
        )))
    by false false here ticking serving =
        let quiet = silent s t e x here (not-is (speaks e) serving) ticking in
        subst (λ (m : ℕ). After s t e x g n m sure left) (sym (no-ticks e.act n ticking))
        (inr (inr (
          left,
          same-after t e x g n n quiet.0.keeps same (no-ticks e.act (now t) ticking ∙ same.at),
          silent-stands s t e x g n sure left quiet.0 quiet.1
              (λ certain. beside-quiet s t e x g n left is here (subst (λ (b : Bool). Stands s t x g n b left) certain stands)) stands,
          λ is whole. let counted : one_act x e ≡ 0 = ap one_if here in omega (arith, counted),
        )))

-- a test of which the second part is met, and the first
or-later : (a b : Bool) → b ≡ true → (a || b) ≡ true
or-later true b is = refl
or-later false b is = is

-- and the first
or-first : (a b : Bool) → a ≡ true → (a || b) ≡ true
or-first true b is = refl
or-first false b is = absurd (cc)

-- it has stopped in a part: its taking is written, or the operator was asked
abbrev pub HasStopped : Scen → (t part : List Entry) → Site → Ground → Type 0
HasStopped s t part x g = (has_taking_write x g.me part ≡ true) ⊎ ((is_asking g.way ≡ true) × (was_asked s t x part ≡ true))

-- by its newest entry
stops-now : (s : Scen) (t part : List Entry) (e : Entry) (x : Site) (g : Ground) → Stops s (part ++ t) e x g → HasStopped s t (e ∷ part) x g
stops-now s t part e x g (inl takes) = inl (or-first (is_taking_write_of x g.me e) (has_taking_write x g.me part) takes)
stops-now s t part e x g (inr asked) = inr (asked.0, or-first (is_asked_at s (e ∷ part ++ t) x) (was_asked s t x part) asked.1)

-- or before
stopped-before : (s : Scen) (t part : List Entry) (e : Entry) (x : Site) (g : Ground) → HasStopped s t part x g → HasStopped s t (e ∷ part) x g
stopped-before s t part e x g (inl takes) = inl (or-later (is_taking_write_of x g.me e) (has_taking_write x g.me part) takes)
stopped-before s t part e x g (inr asked) = inr (asked.0, or-later (is_asked_at s (e ∷ part ++ t) x) (was_asked s t x part) asked.1)

-- After a part that serves it: it has restarted; or it has stopped; or it stands on, with so many acts made and left.
abbrev pub All : Scen → (t part : List Entry) → Site → Ground → (sure : Bool) → (left : ℕ) → Type 0
All s t part x g sure left =
    ((sure ≡ true) × (has_restart x g.me part ≡ true))
    ⊎ (((sure ≡ false) × HasStopped s t part x g)
    ⊎ ((after : ℕ) × Same (part ++ t) x g (now part) × Stands s (part ++ t) x g (now part) sure after
    × (sure ≡ true → AreWhole (settings s x) → acts_of x part + after ≤ left + 7 * now part)))

-- the acts of a part with an entry more
count-acts : (x : Site) (e : Entry) (part : List Entry) → acts_of x (e ∷ part) ≡ one_act x e + acts_of x part
count-acts x e part = by (is_of e.who x)
  where
    by : (b : Bool) → (if b then acts_of x part + 1 else acts_of x part) ≡ one_if b + acts_of x part
    by true = omega arith
    by false = omega arith

-- **all through a part that serves it**
pub served-all : (s : Scen) (t part : List Entry) (x : Site) (g : Ground) (sure : Bool) (left : ℕ) → IsRun s (part ++ t) → Serves s t x part
    → Same t x g 0 → Stands s t x g 0 sure left → All s t part x g sure left
served-all s t [] x g sure left is served same stands = inr (inr (left, same, stands, λ certain whole. omega arith))
served-all s t (e ∷ part) x g sure left is served same stands = by (served-all s t part x g sure left is.0 served.0 same stands)
  where
    onward : (before : ℕ) → (sure ≡ true → AreWhole (settings s x) → acts_of x part + before ≤ left + 7 * now part)
        → After s (part ++ t) e x g (now part) (tick_after e.act (now part)) sure before → All s t (e ∷ part) x g sure left
    onward before few (inl restarts) = inl (restarts.0, or-first (is_restart_of x g.me e) (has_restart x g.me part) restarts.1)
    onward before few (inr (inl stops)) = inr (inl (stops.0, stops-now s t part e x g stops.1))
    onward before few (inr (inr on)) = inr (inr (
      on.0,
      on.1,
      on.2,
      λ certain whole.
          let first = few certain whole in
          let then_on = on.3 certain whole in
          let count = count-acts x e part in
          sums (acts_of x (e ∷ part)) (acts_of x part) (one_act x e) on.0 before left (now part) (tick_after e.act (now part)) first then_on count,
    ))
      where
        sums : (c b o a w l n m : ℕ) → b + w ≤ l + 7 * n → o + a + 7 * n ≤ w + 7 * m → c ≡ o + b → c + a ≤ l + 7 * m
        sums c b o a w l n m first second third = omega (arith, first, second, third)

    by : All s t part x g sure left → All s t (e ∷ part) x g sure left
    by (inl restarts) = inl (restarts.0, or-later (is_restart_of x g.me e) (has_restart x g.me part) restarts.1)
    by (inr (inl stopped)) = inr (inl (stopped.0, stopped-before s t part e x g stopped.1))
    by (inr (inr on)) = onward on.0 on.3 (step s (part ++ t) e x g (now part) sure on.0 is served.1 on.1 on.2)

-- by when it stands there, where it is sure
sure-few : (s : Scen) (t : List Entry) (x : Site) (g : Ground) (n left : ℕ) → Stands s t x g n true left → n ≤ g.by
sure-few s t x g n left (InCourse waits h there named over tracks sets course most) = course-few (settings s x) g n (control t) waits h course
sure-few s t x g n left (InSignOn is h there free mine few sign most) = few
sure-few s t x g n left (InRestart is h there alone restart most) = restart-few (settings s x) g n h restart

-- and where it is not
unsure-few : (s : Scen) (t : List Entry) (x : Site) (g : Ground) (n left : ℕ) → Stands s t x g n false left → n + 1 ≤ g.by
unsure-few s t x g n left (InCourse waits h there named over tracks sets course most) =
    tracking-few (settings s x) g n (control t) h (subst (λ (b : Bool). Course (settings s x) g n (control t) b h) (tracks refl) course)
unsure-few s t x g n left (InSignOn is h there free mine few sign most) = absurd (cc)
unsure-few s t x g n left (InRestart is h there alone restart most) = absurd (cc)

-- the counts of a scenario
pub whole-of : (s : Scen) (x : Site) → IsScen s → AreWhole (settings s x)
whole-of s x ranges = record { ring = omega (arith, ranges.settings.ring.0); log = ranges.settings.log_units }

-- after so many TICKs it has restarted
pub sure-comes : (s : Scen) (t part : List Entry) (x : Site) (g : Ground) (left : ℕ) → g.by + 1 ≤ now part → All s t part x g true left
    → has_restart x g.me part ≡ true
sure-comes s t part x g left late (inl restarts) = restarts.1
sure-comes s t part x g left late (inr (inl takes)) = absurd (cc (takes.0))
sure-comes s t part x g left late (inr (inr on)) =
    let few = sure-few s (part ++ t) x g (now part) on.0 on.2 in absurd (omega (arith, few, late))

-- and after so many acts
pub sure-ends : (s : Scen) (t part : List Entry) (x : Site) (g : Ground) (left : ℕ) → IsScen s → left + 7 * g.by + 1 ≤ acts_of x part
    → All s t part x g true left → has_restart x g.me part ≡ true
sure-ends s t part x g left ranges many (inl restarts) = restarts.1
sure-ends s t part x g left ranges many (inr (inl takes)) = absurd (cc (takes.0))
sure-ends s t part x g left ranges many (inr (inr on)) =
    let few = sure-few s (part ++ t) x g (now part) on.0 on.2 in
    let count = on.3 refl (whole-of s x ranges) in
    absurd (too-many (acts_of x part) on.0 left (now part) g.by few count many)
  where
    too-many : (a b l n m : ℕ) → n ≤ m → a + b ≤ l + 7 * n → l + 7 * m + 1 ≤ a → ⊥
    too-many a b l n m first second third = omega (arith, first, second, third)

-- where it is not sure it has stopped
pub unsure-comes : (s : Scen) (t part : List Entry) (x : Site) (g : Ground) (left : ℕ) → g.by ≤ now part → All s t part x g false left
    → HasStopped s t part x g
unsure-comes s t part x g left late (inl restarts) = absurd (cc (restarts.0))
unsure-comes s t part x g left late (inr (inl stops)) = stops.1
unsure-comes s t part x g left late (inr (inr on)) =
    let few = unsure-few s (part ++ t) x g (now part) on.0 on.2 in absurd (omega (arith, few, late))
