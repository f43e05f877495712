-- The invariant holds of every run, seen from each site.
use Rattle.std.proofs.Common.{List, Bool, Option, subst, ◌≡◌, ℕ, false, is_some, true, ◌&&◌, arith, not, Some, ◌∷◌, refl, sym, IfSome, ap, None, inl, inr, ◌⊎◌, [], ◌∙◌, ◌≤◌, ◌||◌, nat_le, ◌==◌}
use Rattle.std.proofs.Math.Path.{fun_ext}
use Rattle.std.proofs.lemmas.Grind.{common_steps}
use Rattle.std.specs.Option.{option_map}
use Rattle.xrf_base.specs.declared.site.Site.{Site}
use Rattle.xrf_base.specs.declared.site.Site.TheVariants as site
use Rattle.xrf_ctl.specs.Control.{ControlRecord}
use Rattle.xrf_cavm.specs.Record.{inc_of_alt, inc_of_owner}
use Rattle.xrf_cavm.specs.declared.known.Known.{Known}
use Rattle.xrf_history.specs.Events.{Event, ControlWritten, Released, Reserved, ControlRead, StartedActive, StartedStandby, Ticked}
use Rattle.xrf_history.proofs.Histories.{IsHistory, Comes, is_started}
use Rattle.xrf_history.specs.declared.settings.Settings.{Settings}
use Rattle.xrf_history.proofs.Holding.{number-none}
use Rattle.xrf_history.proofs.Purposes.{suited, is_sign_off}
use Rattle.xrf_history.proofs.Phases.{HasRead, has_reserve, phase}
use Rattle.xrf_history.specs.Reserving.{Purpose, SignOff, end_by_purpose, known_read, purpose, record_read, purpose_now}
use Rattle.xrf_history.specs.Next.{after_release, end_next}
use Rattle.xrf_history.specs.Holding.{number, is_granted}
use Rattle.xrf_history.specs.Notices.{epoch_number}
use Rattle.xrf_history.proofs.PhaseLaws.{read-phase, releases-phase, reserve-phase, write-phase}
use Rattle.xrf_trace.specs.declared.entry.Entry.{Entry}
use Rattle.xrf_trace.specs.Words.{confirmed, holds_reserve, reserve_is_free}
use Rattle.xrf_trace.specs.Jobs.{known_of, holds, hist}
use Rattle.xrf_trace.specs.Scenario.{other, Scen, settings}
use Rattle.xrf_trace.specs.Devices.{control}
use Rattle.xrf_trace.proofs.Moves.{control_by, reserve_by, IsHanded, Makes, CutWrite, Goes, Starts, Ticks, Confirms, Confirmed, Gone, Made, Move, Started, Tick}
use Rattle.xrf_trace.proofs.Paths.{ArePaths, paths}
use Rattle.xrf_trace.specs.Refusals.{may_confirm}
use Rattle.xrf_trace.specs.Runs.{IsRun}
use Rattle.xrf_trace.proofs.MoveLaws.{moves}
use Rattle.xrf_owner_law.specs.Owner.{Sound, Both, Knows, HoldsAt, view_at, Job, reserves_of}
use Rattle.xrf_owner_law.specs.Views.{view, View}
use Rattle.xrf_owner_law.proofs.JobSteps.{is_quiet, quiet-view, written_view}
use Rattle.xrf_owner_law.proofs.StateSteps.{read-keeps, release-keeps, reserve-keeps, write-keeps, gone-keeps, fresh_view, started-keeps, IsNot, confirm-keeps, turned}

-- what holds of a history alone
pub sound : (p : Settings) (h : List Event) → IsHistory p h → Sound (view p h)
sound p h is = record { none = number-none h; suits = suited p h is }

-- the same in other words
same-both : (c c' : ControlRecord) (k k' : ℕ → Bool) (x : Site) (own own' beside beside' : Option View) (r r' q q' : Bool)
    → c ≡ c' → ((n : ℕ) → k n ≡ k' n) → own ≡ own' → beside ≡ beside' → r ≡ r' → q ≡ q' → Both c k x own beside r q → Both c' k' x own' beside' r' q'
same-both c c' k k' x own own' beside beside' r r' q q' cs ks owns besides rs qs both =
    subst (λ (b : Bool). Both c' k' x own' beside' r' b) qs
    (subst (λ (b : Bool). Both c' k' x own' beside' b q) rs
    (subst (λ (o : Option View). Both c' k' x own' o r q) besides
    (subst (λ (o : Option View). Both c' k' x o beside r q) owns
    (subst (λ (f : ℕ → Bool). Both c' f x own beside r q) (fun_ext ks)
    (subst (λ (d : ControlRecord). Both d k x own beside r q) cs both)))))

-- what is handed as confirmed is confirmed
pub knows-of : (t : List Entry) (c : ControlRecord) → Knows (confirmed t) (known_of t c) c
knows-of t c =
    record {
      owner = λ is. both-of (is_some c.owner) (confirmed t (inc_of_owner c.owner)) is;
      alt = λ is. both-of (is_some c.alt)
          (confirmed t (inc_of_alt c.alt)) is;
    }
  where
    both-of : (a b : Bool) → (a && b) ≡ true → b ≡ true
    both-of true b is = is
    both-of false b is = absurd (cc)

-- a reserve that is free is free at both sites
free-beside : (a b : Bool) → (not a && not b) ≡ true → (a ≡ false) × (b ≡ false)
free-beside a b is = grind (arith, common_steps)

-- so the other site does not hold it
free-at : (t : List Entry) (x : Site) → reserve_is_free t ≡ true → holds_reserve t (other x) ≡ false
free-at t site.A free = (free-beside (holds_reserve t site.A) (holds_reserve t site.B) free).1
free-at t site.B free = (free-beside (holds_reserve t site.A) (holds_reserve t site.B) free).0

-- the state after an event of the job at a site
abbrev After : Settings → List Entry → Site → (made : Event) → List Event → Option View → (r q : Bool) → Type 0
After p t x made h beside r q = Both (control_by made (control t)) (confirmed t) x (Some (view p (made ∷ h))) beside (reserve_by made r) q

-- after an event that leaves the view
quiet-after : (p : Settings) (t : List Entry) (x : Site) (made : Event) (h : List Event) (beside : Option View) (r q : Bool) → is_quiet made ≡ true
    → Both (control t) (confirmed t) x (Some (view p h)) beside r q → After p t x made h beside r q
quiet-after p t x made h beside r q quiet both =
    subst (λ (c : ControlRecord). Both c (confirmed t) x (Some (view p (made ∷ h))) beside (reserve_by made r) q) (sym (quiet-record made (control t) quiet))
    (subst (λ (b : Bool). Both (control t) (confirmed t) x (Some (view p (made ∷ h))) beside b q) (sym (quiet-reserve made r quiet))
    (subst (λ (v : View). Both (control t) (confirmed t) x (Some v) beside r q) (sym (quiet-view p made h quiet)) both))
  where
    quiet-record : (e : Event) (c : ControlRecord) → is_quiet e ≡ true → control_by e c ≡ c
    quiet-record (ControlWritten w) c is = absurd (cc)
    quiet-record _ c is = refl

    quiet-reserve : (e : Event) (b : Bool) → is_quiet e ≡ true → reserve_by e b ≡ b
    quiet-reserve Reserved b is = absurd (cc)
    quiet-reserve Released b is = absurd (cc)
    quiet-reserve _ b is = refl

-- after a CTLREAD
read-after : (p : Settings) (t : List Entry) (x : Site) (h : List Event) (held : ControlRecord) (known : Known) (beside : Option View) (r q : Bool)
    → held ≡ control t → known ≡ known_of t (control t)
    → Both (control t) (confirmed t) x (Some (record (view p h) { phase = HasRead; read = control t; known = known_of t (control t) })) beside r q
    → After p t x (ControlRead held known) h beside r q
read-after p t x h held known beside r q holds knows both =
    subst (λ (c : ControlRecord). After p t x (ControlRead c known) h beside r q) (sym holds)
    (subst (λ (n : Known). After p t x (ControlRead (control t) n) h beside r q) (sym knows) both)

-- the RELEASE of a sign-off ends it
pub off-ends : (p : Settings) (h : List Event) → is_sign_off (purpose h) ≡ true → is_some (after_release p h) ≡ true
off-ends p h is = by (purpose h) is
  where
    by : (q : Purpose) → is_sign_off q ≡ true → is_some (end_next (end_by_purpose p q (number h) (record_read h) (known_read h))) ≡ true
    by (SignOff state) off = refl
    by _ off = absurd (cc)

-- **each event of the job at a site keeps the invariant**
made-after : (s : Scen) (t : List Entry) (x : Site) (h : List Event) (made : Event) (beside : Option View) (r q : Bool) → IsHistory (settings s x) h
    → Comes (settings s x) h made → IsHanded s t x h made → (reserve_is_free t ≡ true → q ≡ false)
    → Both (control t) (confirmed t) x (Some (view (settings s x) h)) beside r q → After (settings s x) t x made h beside r q
made-after s t x h Reserved beside r q is comes given free both =
    reserve-keeps (control t) (confirmed t) x (view (settings s x) h) (purpose_now h) beside r q (reserve-phase (settings s x) h is comes) (free given) both
made-after s t x h (ControlRead held known) beside r q is comes given free both =
    read-after (settings s x) t x h held known beside r q given.0 given.1
    (read-keeps (control t) (confirmed t) x (view (settings s x) h) (known_of t (control t)) beside r q (read-phase (settings s x) h is comes)
    (knows-of t (control t)) both)
made-after s t x h (ControlWritten w) beside r q is comes given free both =
    let writes = write-phase (settings s x) h w is comes in
    write-keeps (settings s x) (control t) w (confirmed t) (view (settings s x) h) (epoch_number h) beside r q writes.0 writes.1
    (sound (settings s x) h is) both
made-after s t x h Released beside r q is comes given free both =
    release-keeps (control t) (confirmed t) x (view (settings s x) h) (after_release (settings s x) h) beside r q
    (releases-phase (settings s x) h is comes) (off-ends (settings s x) h) both
made-after s t x h StartedActive beside r q is comes given free both = absurd comes
made-after s t x h StartedStandby beside r q is comes given free both = absurd comes
made-after s t x h made beside r q is comes given free both = quiet-after (settings s x) t x made h beside r q refl both

-- the same in the words of the trace after the entry
made-keeps : (s : Scen) (t : List Entry) (e : Entry) (x : Site) (h : List Event) (made : Event) → ArePaths s t → Makes s t e x h made → HoldsAt s t x
    → HoldsAt s (e ∷ t) x
made-keeps s t e x h made are move both =
    let here : view_at s t x ≡ Some (view (settings s x) h) = ap (option_map (view (settings s x))) move.before in
    same-both (control_by made (control t)) (control (e ∷ t)) (confirmed t) (confirmed (e ∷ t)) x
    (Some (view (settings s x) (made ∷ h))) (view_at s (e ∷ t) x) (view_at s t (other x)) (view_at s (e ∷ t) (other x))
    (reserve_by made (holds_reserve t x)) (holds_reserve (e ∷ t) x) (holds_reserve t (other x)) (holds_reserve (e ∷ t) (other x))
    (sym move.record_after) (λ n. sym (move.confirmed_after n)) (sym (ap (option_map (view (settings s x))) move.after))
    (sym (ap (option_map (view (settings s (other x)))) move.beside))
    (sym move.reserve_after) (sym move.reserve_beside)
    (made-after s t x h made (view_at s t (other x)) (holds_reserve t x) (holds_reserve t (other x))
    (subst (λ (job : Option (List Event)). IfSome job (IsHistory (settings s x))) move.before (are x)) move.comes move.handed (free-at t x)
    (subst (λ (o : Option View). Both (control t) (confirmed t) x o (view_at s t (other x)) (holds_reserve t x) (holds_reserve t (other x))) here both))

-- the record after a stop
cut-record : (s : Scen) (t : List Entry) (e : Entry) (x : Site) → ArePaths s t → Goes s t e x → HoldsAt s t x
    → Both (control (e ∷ t)) (confirmed t) x None (view_at s t (other x)) false (holds_reserve t (other x))
cut-record s t e x are move both = by move.record_after
  where
    by : ((control (e ∷ t) ≡ control t) ⊎ CutWrite s t e x)
        → Both (control (e ∷ t)) (confirmed t) x None (view_at s t (other x)) false (holds_reserve t (other x))
    by (inl same) =
        subst (λ (c : ControlRecord). Both c (confirmed t) x None (view_at s t (other x)) false (holds_reserve t (other x))) (sym same)
        (gone-keeps (control t) (confirmed t) x (view_at s t x) (view_at s t (other x)) (holds_reserve t x) (holds_reserve t (other x)) both)
    by (inr (h, w, there, writes, landed)) =
        let is = subst (λ (job : Option (List Event)). IfSome job (IsHistory (settings s x))) there (are x) in
        let here : view_at s t x ≡ Some (view (settings s x) h) = ap (option_map (view (settings s x))) there in
        let wrote = write-phase (settings s x) h w is writes in
        subst (λ (c : ControlRecord). Both c (confirmed t) x None (view_at s t (other x)) false (holds_reserve t (other x))) (sym landed)
        (gone-keeps w (confirmed t) x (Some (written_view (view (settings s x) h) w)) (view_at s t (other x)) (holds_reserve t x) (holds_reserve t (other x))
        (write-keeps (settings s x) (control t) w (confirmed t) (view (settings s x) h) (epoch_number h) (view_at s t (other x)) (holds_reserve t x)
        (holds_reserve t (other x)) wrote.0 wrote.1 (sound (settings s x) h is)
        (subst (λ (o : Option View). Both (control t) (confirmed t) x o (view_at s t (other x)) (holds_reserve t x) (holds_reserve t (other x))) here both)))

-- a job that stops or ends keeps it
gone-after : (s : Scen) (t : List Entry) (e : Entry) (x : Site) → ArePaths s t → Goes s t e x → HoldsAt s t x → HoldsAt s (e ∷ t) x
gone-after s t e x are move both =
    same-both (control (e ∷ t)) (control (e ∷ t)) (confirmed t) (confirmed (e ∷ t)) x
    None (view_at s (e ∷ t) x) (view_at s t (other x)) (view_at s (e ∷ t) (other x))
    false (holds_reserve (e ∷ t) x) (holds_reserve t (other x)) (holds_reserve (e ∷ t) (other x))
    refl (λ n. sym (move.confirmed_after n)) (sym (ap (option_map (view (settings s x))) move.after))
    (sym (ap (option_map (view (settings s (other x)))) move.beside))
    (sym move.reserve_after) (sym move.reserve_beside)
    (cut-record s t e x are move both)

-- what is read of a job that has just started
pub started-view : (p : Settings) (made : Event) → is_started made ≡ true → fresh_view ≡ view p (made ∷ [])
started-view p StartedActive started = refl
started-view p StartedStandby started = refl
started-view p _ started = absurd (cc)

-- a START keeps it
started-after : (s : Scen) (t : List Entry) (e : Entry) (x : Site) (made : Event) → Starts s t e x made → HoldsAt s t x → HoldsAt s (e ∷ t) x
started-after s t e x made move both =
    let none : view_at s t x ≡ None = ap (option_map (view (settings s x))) move.before in
    same-both (control t) (control (e ∷ t)) (confirmed t) (confirmed (e ∷ t)) x
    (Some fresh_view) (view_at s (e ∷ t) x) (view_at s t (other x)) (view_at s (e ∷ t) (other x))
    (holds_reserve t x) (holds_reserve (e ∷ t) x) (holds_reserve t (other x)) (holds_reserve (e ∷ t) (other x))
    (sym move.record_after) (λ n. sym (move.confirmed_after n))
    (ap (λ (v : View). Some v) (started-view (settings s x) made move.started) ∙ sym (ap (option_map (view (settings s x))) move.after))
    (sym (ap (option_map (view (settings s (other x)))) move.beside)) (sym (move.reserve_after x)) (sym (move.reserve_after (other x)))
    (started-keeps (control t) (confirmed t) x (view_at s t (other x)) (holds_reserve t x) (holds_reserve t (other x))
    (subst (λ (o : Option View). Both (control t) (confirmed t) x o (view_at s t (other x)) (holds_reserve t x) (holds_reserve t (other x))) none both))

-- a tick leaves what is read of a job
pub ticked-view : (p : Settings) (job : Option (List Event)) → option_map (view p) job ≡ option_map (view p) (option_map (λ h. Ticked ∷ h) job)
ticked-view p None = refl
ticked-view p (Some h) = refl

-- a tick keeps it
ticked-after : (s : Scen) (t : List Entry) (e : Entry) (x : Site) → Ticks s t e → HoldsAt s t x → HoldsAt s (e ∷ t) x
ticked-after s t e x move both =
    same-both (control t) (control (e ∷ t)) (confirmed t) (confirmed (e ∷ t)) x
    (view_at s t x) (view_at s (e ∷ t) x) (view_at s t (other x)) (view_at s (e ∷ t) (other x))
    (holds_reserve t x) (holds_reserve (e ∷ t) x) (holds_reserve t (other x)) (holds_reserve (e ∷ t) (other x))
    (sym move.record_after) (λ n. sym (move.confirmed_after n))
    (ticked-view (settings s x) (hist s t x) ∙ sym (ap (option_map (view (settings s x))) (move.after x)))
    (ticked-view (settings s (other x)) (hist s t (other x)) ∙ sym (ap (option_map (view (settings s (other x)))) (move.after (other x))))
    (sym (move.reserve_after x)) (sym (move.reserve_after (other x))) both

-- a confirmed number is given, and no job's
record MayConfirm (s : Scen) (t : List Entry) (n : ℕ) : Type 0 where
  pub given : n ≤ (control t).last
  pub a : holds n (hist s t site.A) ≡ false
  pub b : holds n (hist s t site.B) ≡ false

-- the tests of a confirmation, one by one
may-of : (one given a b : Bool) → (one && given && not (a || b)) ≡ true → (given ≡ true) × (a ≡ false) × (b ≡ false)
may-of one given a b is = grind (arith, common_steps)

-- a comparison that is met
le-of : (n m : ℕ) → nat_le n m ≡ true → n ≤ m
le-of n m is = grind (arith, common_steps)

-- a number that is confirmed was given, and is no job's
may-confirm : (s : Scen) (t : List Entry) (n : ℕ) → may_confirm s t n ≡ true → MayConfirm s t n
may-confirm s t n is =
    let parts = may-of (nat_le 1 n) (nat_le n (control t).last) (holds n (hist s t site.A)) (holds n (hist s t site.B)) is in
    record { given = le-of n (control t).last parts.0; a = parts.1; b = parts.2 }

-- it is not the number of a job that is there
is-not : (p : Settings) (n : ℕ) (job : Option (List Event)) → holds n job ≡ false → IfSome (option_map (view p) job) (IsNot n)
is-not p n None is = tt
is-not p n (Some h) is = λ granted. by (is_granted h) granted is
  where
    by : (g : Bool) → g ≡ true → (g && number h == n) ≡ false → (number h == n) ≡ false
    by true granted no_job = no_job
    by false granted no_job = absurd (cc)

-- a confirmation keeps it
confirmed-after : (s : Scen) (t : List Entry) (e : Entry) (n : ℕ) → Confirms s t e n → HoldsAt s t site.A → HoldsAt s (e ∷ t) site.A
confirmed-after s t e n move both =
    let may = may-confirm s t n move.may in
    same-both (control t) (control (e ∷ t)) (λ m. n == m || confirmed t m) (confirmed (e ∷ t)) site.A
    (view_at s t site.A) (view_at s (e ∷ t) site.A) (view_at s t site.B) (view_at s (e ∷ t) site.B)
    (holds_reserve t site.A) (holds_reserve (e ∷ t) site.A) (holds_reserve t site.B) (holds_reserve (e ∷ t) site.B)
    (sym move.record_after) (λ m. sym (move.confirmed_after m)) (sym (ap (option_map (view (settings s site.A))) (move.after site.A)))
    (sym (ap (option_map (view (settings s site.B))) (move.after site.B))) (sym (move.reserve_after site.A)) (sym (move.reserve_after site.B))
    (confirm-keeps (control t) (confirmed t) site.A n (view_at s t site.A) (view_at s t site.B) (holds_reserve t site.A) (holds_reserve t site.B)
    may.given (is-not (settings s site.A) n (hist s t site.A) may.a) (is-not (settings s site.B) n (hist s t site.B) may.b) both)

-- seen from each site
pub from-each : (s : Scen) (t : List Entry) (x : Site) → HoldsAt s t site.A → HoldsAt s t x
from-each s t site.A both = both
from-each s t site.B both =
    turned (control t) (confirmed t) site.A (view_at s t site.A) (view_at s t site.B) (holds_reserve t site.A) (holds_reserve t site.B) both

-- seen from A
to-a : (s : Scen) (t : List Entry) (x : Site) → HoldsAt s t x → HoldsAt s t site.A
to-a s t site.A both = both
to-a s t site.B both = turned (control t) (confirmed t) site.B (view_at s t site.B) (view_at s t site.A) (holds_reserve t site.B) (holds_reserve t site.A) both

-- each move keeps it
move-keeps : (s : Scen) (t : List Entry) (e : Entry) → ArePaths s t → Move s t e → HoldsAt s t site.A → HoldsAt s (e ∷ t) site.A
move-keeps s t e are (Made x h made move) both = to-a s (e ∷ t) x (made-keeps s t e x h made are move (from-each s t x both))
move-keeps s t e are (Gone x move) both = to-a s (e ∷ t) x (gone-after s t e x are move (from-each s t x both))
move-keeps s t e are (Started x made move) both = to-a s (e ∷ t) x (started-after s t e x made move (from-each s t x both))
move-keeps s t e are (Tick move) both = ticked-after s t e site.A move both
move-keeps s t e are (Confirmed n move) both = confirmed-after s t e n move both

-- it holds of the empty trace
nothing-yet : (s : Scen) → HoldsAt s [] site.A
nothing-yet s = record {
  rule = record { owner = omega arith; alt = omega arith; other = tt };
  given = λ n is. absurd (cc);
  job = tt;
  job_beside = tt;
  reserve = refl;
  reserve_beside = refl;
  alone = λ is held. absurd (cc);
  apart = tt;
}

-- it holds of every run, seen from A
holds-a : (s : Scen) (t : List Entry) → IsRun s t → HoldsAt s t site.A
holds-a s [] is = nothing-yet s
holds-a s (e ∷ t) is = move-keeps s t e (paths s t is.0) (moves s t e is) (holds-a s t is.0)

-- **the invariant holds of every run, seen from each site**
pub holds-at : (s : Scen) (t : List Entry) (x : Site) → IsRun s t → HoldsAt s t x
holds-at s t x is = from-each s t x (holds-a s t is)

-- what holds of a job of a run
pub job-at : (s : Scen) (t : List Entry) (x : Site) (h : List Event) → IsRun s t → hist s t x ≡ Some h → Job (control t) (confirmed t) x (view (settings s x) h)
job-at s t x h is there =
    subst (λ (job : Option (List Event)). IfSome (option_map (view (settings s x)) job) (Job (control t) (confirmed t) x)) there (holds-at s t x is).job

-- no write stands beside a job that holds the reserve
holds-here : (p : Settings) (r : Bool) (job : Option (List Event)) (h : List Event) → r ≡ reserves_of (option_map (view p) job) → job ≡ Some h
    → has_reserve (phase p h) ≡ true
    → r ≡ true
holds-here p r job h reserve here holds = reserve ∙ ap (λ (j : Option (List Event)). reserves_of (option_map (view p) j)) here ∙ holds

-- the reserve is the job's from RESERVE to RELEASE
pub reserve-at : (s : Scen) (t : List Entry) (x : Site) (h : List Event) → IsRun s t → hist s t x ≡ Some h
    → holds_reserve t x ≡ has_reserve (phase (settings s x) h)
reserve-at s t x h is here =
    (holds-at s t x is).reserve ∙ ap (λ (j : Option (List Event)). reserves_of (option_map (view (settings s x)) j)) here

-- two jobs do not hold the reserve
pub one-reserve : (s : Scen) (t : List Entry) (x : Site) (h g : List Event) → IsRun s t → hist s t x ≡ Some h → hist s t (other x) ≡ Some g
    → has_reserve (phase (settings s x) h) ≡ true
    → has_reserve (phase (settings s (other x)) g) ≡ true → ⊥
one-reserve s t x h g is here there holds holds_there =
    let both = holds-at s t x is in
    both.alone (holds-here (settings s x) (holds_reserve t x) (hist s t x) h both.reserve here holds)
    (holds-here (settings s (other x)) (holds_reserve t (other x)) (hist s t (other x)) g both.reserve_beside there holds_there)
