-- A job that always has a next act, each of which leaves less up to an end, comes to that end where its site is served.
use Rattle.std.proofs.Common.{◌≡◌, ℕ, ◌+◌, ◌≤◌, ◌&&◌, not, Bool, true, false, ◌⊎◌, inl, inr, List, [], ◌∷◌, ◌++◌, Option, Some, is_none, refl, ap, ◌∙◌, sym, arith, if◌then◌else◌}
use Rattle.std.specs.Option.{option_map_or}
use Rattle.std.proofs.lemmas.Bool.{and_parts}
use Rattle.std.proofs.lemmas.Grind.{common_steps}
use Rattle.xrf_base.specs.declared.site.Site.{Site}
use Rattle.xrf_history.specs.Events.{Event}
use Rattle.xrf_history.specs.Next.{next}
use Rattle.xrf_history.proofs.Tests.{or-left, or-right}
use Rattle.xrf_trace.specs.declared.entry.Entry.{Entry}
use Rattle.xrf_trace.specs.declared.entry.Act.{Act}
use Rattle.xrf_trace.specs.Scenario.{Scen, settings}
use Rattle.xrf_trace.specs.Landing.{is_in_full}
use Rattle.xrf_trace.specs.Words.{is_of, now}
use Rattle.xrf_trace.specs.Jobs.{hist, handed}
use Rattle.xrf_trace.specs.Acts.{act_of, next_act, is_act}
use Rattle.xrf_trace.specs.Runs.{IsRun}
use Rattle.xrf_progress.specs.Serving.{Serves, serves, speaks, is_tick, acts_of, is_so, was_so}
use Rattle.xrf_progress.proofs.Entries.{is_ended, Own, own, Quiet, silent}
use Rattle.xrf_progress.proofs.Served.{none-is, not-is}
use Rattle.xrf_progress.proofs.Standing.{next-of}

-- a place of a job in a trace, with so many acts left
abbrev pub At : Type 1
At = List Entry → (left : ℕ) → List Event → Type 0

-- Its next act is there, and comes to the end, or to a place with less left. An entry of the other site, or of none, leaves it.
abbrev pub Leaves : Scen → Site → At → (List Entry → List Event → Bool) → Type 0
Leaves s x J ends =
    (t : List Entry) (h : List Event) (left : ℕ) → IsRun s t → hist s t x ≡ Some h → J t left h
    → (a : Act) × (act_of s t x h (next (settings s x) h) ≡ Some a) × (is_ended a ≡ false) × (1 ≤ left)
    × ((e : Entry) → IsRun s (e ∷ t) → Own s t e x h → e.act ≡ a
    → (ends (e ∷ t) (handed s t x (now t) h a ∷ h) ≡ true) ⊎ ((after : ℕ) × J (e ∷ t) after (handed s t x (now t) h a ∷ h) × (after + 1 ≤ left)))

abbrev pub Keeps : Scen → Site → At → Type 0
Keeps s x J =
    (t : List Entry) (e : Entry) (h : List Event) (left : ℕ) → is_of e.who x ≡ false → is_tick e.act ≡ false → Quiet s t e x → J t left h → J (e ∷ t) left h

-- two acts that are one
some-same : (a b : Act) → ◌≡◌ {A = Option Act} (Some a) (Some b) → a ≡ b
some-same a b is = grind (arith, common_steps)

-- Where it stands after a part: it has come to the end; or it stands on, with so many acts made.
abbrev Onward : Scen → (t part : List Entry) → Site → At → (List Entry → List Event → Bool) → (left : ℕ) → Type 0
Onward s t part x J ends left =
    (was_so s ends t x part ≡ true)
    ⊎ ((h : List Event) × (after : ℕ) × (hist s (part ++ t) x ≡ Some h) × J (part ++ t) after h × (acts_of x part + after ≤ left))

-- one act more
count-own : (x : Site) (e : Entry) (part : List Entry) → is_of e.who x ≡ true → acts_of x (e ∷ part) ≡ acts_of x part + 1
count-own x e part is = ap (λ (b : Bool). if b then acts_of x part + 1 else acts_of x part) is

-- none more
count-other : (x : Site) (e : Entry) (part : List Entry) → is_of e.who x ≡ false → acts_of x (e ∷ part) ≡ acts_of x part
count-other x e part is = ap (λ (b : Bool). if b then acts_of x part + 1 else acts_of x part) is

-- each entry that serves it leads on
step : (s : Scen) (t part : List Entry) (e : Entry) (x : Site) (J : At) (ends : List Entry → List Event → Bool) (left : ℕ) → Leaves s x J ends → Keeps s x J
    → IsRun s (e ∷ part ++ t) → serves s (part ++ t) x e ≡ true → (h : List Event) → (before : ℕ) → hist s (part ++ t) x ≡ Some h → J (part ++ t) before h
    → acts_of x part + before ≤ left → Onward s t (e ∷ part) x J ends left
step s t part e x J ends left leaves keeps is served h before there at few = by (is_of e.who x) (is_tick e.act) refl refl served
  where
    r : List Entry
    r = part ++ t

    made : is_of e.who x ≡ true → is_act e.act ≡ true → is_in_full e.land ≡ true → Onward s t (e ∷ part) x J ends left
    made mine acts full = goes (leaves r h before is.0 there at)
      where
        o : Own s r e x h
        o = own s r e x h is mine acts full there

        goes : (a : Act) × (act_of s r x h (next (settings s x) h) ≡ Some a) × (is_ended a ≡ false) × (1 ≤ before)
            × ((e : Entry) → IsRun s (e ∷ r) → Own s r e x h → e.act ≡ a
            → (ends (e ∷ r) (handed s r x (now r) h a ∷ h) ≡ true) ⊎ ((after : ℕ) × J (e ∷ r) after (handed s r x (now r) h a ∷ h) × (after + 1 ≤ before)))
            → Onward s t (e ∷ part) x J ends left
        goes (a, next_is, goes_on, some, ahead) = by (ahead e is o same)
          where
            same : e.act ≡ a
            same = some-same e.act a (sym o.made ∙ next_is)

            after_is : hist s (e ∷ r) x ≡ Some (handed s r x (now r) h a ∷ h)
            after_is = o.after (ap is_ended same ∙ goes_on) ∙ ap (λ (b : Act). Some (handed s r x (now r) h b ∷ h)) same

            by : (ends (e ∷ r) (handed s r x (now r) h a ∷ h) ≡ true) ⊎ ((after : ℕ) × J (e ∷ r) after (handed s r x (now r) h a ∷ h) × (after + 1 ≤ before))
                → Onward s t (e ∷ part) x J ends left
            by (inl ended) = inl (or-left (is_so s ends (e ∷ r) x) (was_so s ends t x part) (ap (λ (job : Option (List Event)). option_map_or (ends (e ∷ r)) job false) after_is ∙ ended))
            by (inr on) =
                let count = count-own x e part mine in
                inr (handed s r x (now r) h a ∷ h, on.0, after_is, on.1, omega (arith, count, on.2, few))

    by : (mine tick : Bool) → is_of e.who x ≡ mine → is_tick e.act ≡ tick
        → (if mine then is_act e.act && is_in_full e.land else (if tick then is_none (next_act s r x) else not (speaks e))) ≡ true
        → Onward s t (e ∷ part) x J ends left
    by true tick here ticking serving = let parts = and_parts (is_act e.act) (is_in_full e.land) serving in made here parts.0 parts.1
    by false true here ticking serving =
        let none = next-of s r x h there (none-is (next_act s r x) serving) in
        absurd (cc (sym none ∙ (leaves r h before is.0 there at).1))
    by false false here ticking serving =
        let quiet = silent s r e x here (not-is (speaks e) serving) ticking in
        let count = count-other x e part here in
        inr (h, before, quiet.1 ∙ there, keeps r e h before here ticking quiet.0 at, omega (arith, count, few))

-- all through a part
goes-on : (s : Scen) (t part : List Entry) (x : Site) (J : At) (ends : List Entry → List Event → Bool) (left : ℕ) → Leaves s x J ends → Keeps s x J
    → IsRun s (part ++ t) → Serves s t x part → (h : List Event) → hist s t x ≡ Some h → J t left h → Onward s t part x J ends left
goes-on s t [] x J ends left leaves keeps is served h there at = inr (h, left, there, at, omega arith)
goes-on s t (e ∷ part) x J ends left leaves keeps is served h there at =
    by (goes-on s t part x J ends left leaves keeps is.0 served.0 h there at)
  where
    by : Onward s t part x J ends left → Onward s t (e ∷ part) x J ends left
    by (inl ended) = inl (or-right (is_so s ends (e ∷ part ++ t) x) (was_so s ends t x part) ended)
    by (inr (f, before, is_there, stands, few)) = step s t part e x J ends left leaves keeps is served.1 f before is_there stands few

-- **after so many acts it has come to its end**
pub comes-to : (s : Scen) (t part : List Entry) (x : Site) (J : At) (ends : List Entry → List Event → Bool) (left : ℕ) → Leaves s x J ends → Keeps s x J
    → IsRun s (part ++ t) → Serves s t x part → (h : List Event) → hist s t x ≡ Some h → J t left h → left ≤ acts_of x part
    → was_so s ends t x part ≡ true
comes-to s t part x J ends left leaves keeps is served h there at many = by (goes-on s t part x J ends left leaves keeps is served h there at)
  where
    by : Onward s t part x J ends left → was_so s ends t x part ≡ true
    by (inl ended) = ended
    by (inr (f, after, is_there, stands, few)) =
        let some = (leaves (part ++ t) f after is is_there stands).3 in
        absurd (omega (arith, some, few, many))
