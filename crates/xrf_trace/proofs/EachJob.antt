-- A fact of each job of a run against the record and what is confirmed: it is enough that each kind of move keeps it.
use Rattle.std.proofs.Common.{Bool, List, ℕ, Some, true, ◌≡◌, ◌==◌, ◌||◌, [], ◌∷◌, IfSome, Option, subst, sym, None, refl, inl, inr, ◌⊎◌}
use Rattle.std.proofs.Math.Path.{fun_ext}
use Rattle.std.specs.Option.{option_map}
use Rattle.xrf_base.specs.declared.site.Site.{Site}
use Rattle.xrf_ctl.specs.Control.{ControlRecord}
use Rattle.xrf_history.specs.Events.{Event, Ticked, ControlWritten}
use Rattle.xrf_history.proofs.Histories.{Comes, is_started}
use Rattle.xrf_history.specs.Next.{next}
use Rattle.xrf_history.specs.declared.want.Want.TheVariants as want
use Rattle.xrf_trace.specs.Scenario.{Scen, other, settings}
use Rattle.xrf_trace.specs.declared.entry.Entry.{Entry}
use Rattle.xrf_trace.proofs.Moves.{IsHanded, control_by, CutWrite, Goes, Confirmed, Gone, Made, Move, Started, Tick}
use Rattle.xrf_trace.specs.Runs.{IsRun}
use Rattle.xrf_trace.specs.Words.{confirmed}
use Rattle.xrf_trace.specs.Devices.{control}
use Rattle.xrf_trace.specs.Jobs.{hist}
use Rattle.xrf_trace.proofs.Sites.{each}
use Rattle.xrf_trace.proofs.MoveLaws.{moves}

-- a fact of a job against the control record and what is confirmed
abbrev pub Fact : Type 1
Fact = Scen → ControlRecord → (ℕ → Bool) → Site → List Event → Type 0

-- what each kind of move has to keep
pub record Kept (F : Fact) : Type 0 where
  pub born : (s : Scen) (c : ControlRecord) (k : ℕ → Bool) (x : Site) (made : Event) → is_started made ≡ true → F s c k x (made ∷ [])
  pub ticked : (s : Scen) (c : ControlRecord) (k : ℕ → Bool) (x : Site) (h : List Event) → F s c k x h → F s c k x (Ticked ∷ h)
  pub confirms : (s : Scen) (c : ControlRecord) (k : ℕ → Bool) (x : Site) (h : List Event) (n : ℕ) → F s c k x h → F s c (λ m. n == m || k m) x h
  pub own : (s : Scen) (t : List Entry) (x : Site) (h : List Event) (made : Event) → IsRun s t → hist s t x ≡ Some h → Comes (settings s x) h made
      → IsHanded s t x h made
      → F s (control t) (confirmed t) x h → F s (control_by made (control t)) (confirmed t) x (made ∷ h)
  pub beside : (s : Scen) (t : List Entry) (x : Site) (h g : List Event) (w : ControlRecord) → IsRun s t → hist s t x ≡ Some h
      → next (settings s x) h ≡ want.CtlWrite w
      → hist s t (other x) ≡ Some g → F s (control t) (confirmed t) (other x) g → F s w (confirmed t) (other x) g

-- of a job where one is there
abbrev OfJob : Fact → Scen → ControlRecord → (ℕ → Bool) → Site → Option (List Event) → Type 0
OfJob F s c k x job = IfSome job (F s c k x)

-- of the job of each site
abbrev AtEach : Fact → Scen → List Entry → Type 0
AtEach F s t = (x : Site) → OfJob F s (control t) (confirmed t) x (hist s t x)

-- the same in the words of the trace after the entry
moved : (F : Fact) (s : Scen) (t : List Entry) (e : Entry) (x : Site) (c : ControlRecord) (k : ℕ → Bool) (job : Option (List Event))
    → hist s (e ∷ t) x ≡ job → control (e ∷ t) ≡ c
    → ((n : ℕ) → confirmed (e ∷ t) n ≡ k n) → OfJob F s c k x job → OfJob F s (control (e ∷ t)) (confirmed (e ∷ t)) x (hist s (e ∷ t) x)
moved F s t e x c k job jobs records confirms holds =
    subst (λ (f : ℕ → Bool). OfJob F s (control (e ∷ t)) f x (hist s (e ∷ t) x)) (sym (fun_ext confirms))
    (subst (λ (d : ControlRecord). OfJob F s d k x (hist s (e ∷ t) x)) (sym records) (subst (OfJob F s c k x) (sym jobs) holds))

-- a CTLWRITE of the other job
beside-write : (F : Fact) → Kept F → (s : Scen) (t : List Entry) (x : Site) (h : List Event) (w : ControlRecord) (job : Option (List Event))
    → IsRun s t → hist s t x ≡ Some h
    → next (settings s x) h ≡ want.CtlWrite w → hist s t (other x) ≡ job → OfJob F s (control t) (confirmed t) (other x) job
    → OfJob F s w (confirmed t) (other x) job
beside-write F kept s t x h w None is here writes there holds = tt
beside-write F kept s t x h w (Some g) is here writes there holds = kept.beside s t x h g w is here writes there holds

-- an event of the other job
beside-made : (F : Fact) → Kept F → (s : Scen) (t : List Entry) (x : Site) (h : List Event) (made : Event) → IsRun s t → hist s t x ≡ Some h
    → Comes (settings s x) h made
    → AtEach F s t → OfJob F s (control_by made (control t)) (confirmed t) (other x) (hist s t (other x))
beside-made F kept s t x h (ControlWritten w) is here comes are = beside-write F kept s t x h w (hist s t (other x)) is here comes refl (are (other x))
beside-made F kept s t x h _ is here comes are = are (other x)

-- the other job goes, and its CTLWRITE may land
beside-gone : (F : Fact) → Kept F → (s : Scen) (t : List Entry) (e : Entry) (x : Site) → IsRun s t → Goes s t e x → AtEach F s t
    → OfJob F s (control (e ∷ t)) (confirmed t) (other x) (hist s t (other x))
beside-gone F kept s t e x is move are = by move.record_after
  where
    by : ((control (e ∷ t) ≡ control t) ⊎ CutWrite s t e x) → OfJob F s (control (e ∷ t)) (confirmed t) (other x) (hist s t (other x))
    by (inl same) = subst (λ (d : ControlRecord). OfJob F s d (confirmed t) (other x) (hist s t (other x))) (sym same) (are (other x))
    by (inr (h, w, here, writes, landed)) =
        subst (λ (d : ControlRecord). OfJob F s d (confirmed t) (other x) (hist s t (other x))) (sym landed)
        (beside-write F kept s t x h w (hist s t (other x)) is here writes refl (are (other x)))

-- a tick
tick-of : (F : Fact) → Kept F → (s : Scen) (c : ControlRecord) (k : ℕ → Bool) (x : Site) (job : Option (List Event)) → OfJob F s c k x job
    → OfJob F s c k x (option_map (λ h. Ticked ∷ h) job)
tick-of F kept s c k x None holds = tt
tick-of F kept s c k x (Some h) holds = kept.ticked s c k x h holds

-- a confirmation
confirm-of : (F : Fact) → Kept F → (s : Scen) (c : ControlRecord) (k : ℕ → Bool) (x : Site) (n : ℕ) (job : Option (List Event)) → OfJob F s c k x job
    → OfJob F s c (λ m. n == m || k m) x job
confirm-of F kept s c k x n None holds = tt
confirm-of F kept s c k x n (Some h) holds = kept.confirms s c k x h n holds

-- each move keeps it
move-of : (F : Fact) → Kept F → (s : Scen) (t : List Entry) (e : Entry) → IsRun s t → AtEach F s t → Move s t e → AtEach F s (e ∷ t)
move-of F kept s t e is are (Made x h made move) =
    each (λ y. OfJob F s (control (e ∷ t)) (confirmed (e ∷ t)) y (hist s (e ∷ t) y)) x
    (moved F s t e x (control_by made (control t)) (confirmed t) (Some (made ∷ h)) move.after move.record_after move.confirmed_after
    (kept.own s t x h made is move.before move.comes move.handed (subst (OfJob F s (control t) (confirmed t) x) move.before (are x))))
    (moved F s t e (other x) (control_by made (control t)) (confirmed t) (hist s t (other x)) move.beside move.record_after move.confirmed_after
    (beside-made F kept s t x h made is move.before move.comes are))
move-of F kept s t e is are (Gone x move) =
    each (λ y. OfJob F s (control (e ∷ t)) (confirmed (e ∷ t)) y (hist s (e ∷ t) y)) x
    (moved F s t e x (control (e ∷ t)) (confirmed t) None move.after refl move.confirmed_after tt)
    (moved F s t e (other x) (control (e ∷ t)) (confirmed t) (hist s t (other x)) move.beside refl move.confirmed_after (beside-gone F kept s t e x is move are))
move-of F kept s t e is are (Started x made move) =
    each (λ y. OfJob F s (control (e ∷ t)) (confirmed (e ∷ t)) y (hist s (e ∷ t) y)) x
    (moved F s t e x (control t) (confirmed t) (Some (made ∷ [])) move.after move.record_after move.confirmed_after
    (kept.born s (control t) (confirmed t) x made move.started))
    (moved F s t e (other x) (control t) (confirmed t) (hist s t (other x)) move.beside move.record_after move.confirmed_after (are (other x)))
move-of F kept s t e is are (Tick move) =
    λ y. moved F s t e y (control t) (confirmed t) (option_map (λ h. Ticked ∷ h) (hist s t y)) (move.after y) move.record_after move.confirmed_after
    (tick-of F kept s (control t) (confirmed t) y (hist s t y) (are y))
move-of F kept s t e is are (Confirmed n move) =
    λ y. moved F s t e y (control t) (λ m. n == m || confirmed t m) (hist s t y) (move.after y) move.record_after move.confirmed_after
    (confirm-of F kept s (control t) (confirmed t) y n (hist s t y) (are y))

-- a fact that each kind of move keeps holds of each job of a run
pub each-job : (F : Fact) → Kept F → (s : Scen) (t : List Entry) → IsRun s t → (x : Site) → IfSome (hist s t x) (F s (control t) (confirmed t) x)
each-job F kept s [] is = λ x. tt
each-job F kept s (e ∷ t) is = move-of F kept s t e is.0 (each-job F kept s t is.0) (moves s t e is)
