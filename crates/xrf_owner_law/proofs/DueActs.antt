-- The acts under the reserve: what stands in its place is the next act.
use Rattle.std.proofs.Common.{List, None, Option, Some, ◌∷◌, [], arith, length, refl, slice_get, suc, zero, ◌≡◌, ℕ, ◌≤◌, subst, sym, ap, false, true}
use Rattle.std.proofs.lemmas.Grind.{common_steps}
use Rattle.xrf_base.specs.declared.site.Site.{Site}
use Rattle.xrf_ctl.specs.Control.{ControlRecord}
use Rattle.xrf_history.specs.declared.want.EndWhy.{EndWhy}
use Rattle.xrf_history.specs.Events.{Event}
use Rattle.xrf_history.proofs.Phases.{HasRead, HasWritten, Outside, Over, Phase, phase}
use Rattle.xrf_history.proofs.Stages.{Stage, WantIn, ends-want, has-both, stages, to_end, to_write, want-in}
use Rattle.xrf_history.specs.declared.want.Want.{Want}
use Rattle.xrf_history.proofs.Histories.{IsHistory}
use Rattle.xrf_history.specs.Progress.{has_read, made_since_read}
use Rattle.xrf_history.specs.Next.{inside, next}
use Rattle.xrf_history.specs.Notices.{is_drop}
use Rattle.xrf_history.proofs.PhaseLaws.{phase-next}
use Rattle.xrf_history.specs.Reserving.{purpose}
use Rattle.xrf_trace.specs.declared.entry.Act.{Act}
use Rattle.xrf_trace.specs.NextIsDue.{IsNext}
use Rattle.xrf_trace.specs.Each.{InPlace, IsAct}
use Rattle.xrf_trace.specs.declared.entry.Entry.{Entry}
use Rattle.xrf_trace.specs.Scenario.{Scen, settings}
use Rattle.xrf_trace.specs.Acts.{act_of}
use Rattle.xrf_trace.specs.declared.entry.Act.TheVariants as act

-- the act that stands at a place of the acts under the reserve
abbrev pub acts_of : Option ControlRecord → Option EndWhy → List Act
acts_of (Some w) (Some reason) = act.CtlWrite w ∷ act.Release ∷ act.Ended reason ∷ []
acts_of (Some w) None = act.CtlWrite w ∷ act.Release ∷ []
acts_of None (Some reason) = act.Release ∷ act.Ended reason ∷ []
acts_of None None = act.Release ∷ []

-- behind its end a sequence has nothing
pub past : (acts : List Act) (k : ℕ) → length acts ≤ k → slice_get acts k ≡ None
past [] k is = refl
past (a ∷ acts) zero is = absurd (omega (arith, is))
past (a ∷ acts) (suc k) is = past acts k (omega (arith, is))

-- what stands in a place of a sequence is the next act
pub at-due : (acts : List Act) (k n : ℕ) (a : Option Act) → k ≡ n → IsNext (slice_get acts n) a → IsNext (slice_get acts k) a
at-due acts k n a same is = subst (λ (m : ℕ). IsNext (slice_get acts m) a) (sym same) is

-- behind its end nothing is due
pub past-due : (acts : List Act) (k : ℕ) (a : Option Act) → length acts ≤ k → IsNext (slice_get acts k) a
past-due acts k a is = subst (λ (o : Option Act). IsNext o a) (sym (past acts k is)) tt

-- what is made where it is due stands in its place
pub due-in-place : (acts : List Act) (k : ℕ) (o : Option Act) (a : Act) → o ≡ Some a → IsNext (slice_get acts k) o → InPlace acts k a
due-in-place acts k o a made due = by (slice_get acts k) due
  where
    by : (v : Option Act) → IsNext v o → IsAct v a
    by None due = tt
    by (Some wanted) due = grind (arith, common_steps)

-- under the reserve from the CTLREAD on
due-place : (s : Scen) (t : List Entry) (x : Site) (h : List Event) (writes : Option ControlRecord) (ends : Option EndWhy) (made : ℕ)
    (i : Option Want) (f : Phase) (w : Want)
    → Stage writes ends made i f → WantIn writes ends f w → IsNext (slice_get (acts_of writes ends) made) (act_of s t x h w)
due-place s t x h (Some r) (Some reason) made i HasRead w at wants =
    at-due (acts_of (Some r) (Some reason)) made 0 (act_of s t x h w) at (ap (act_of s t x h) wants)
due-place s t x h (Some r) None made i HasRead w at wants = at-due (acts_of (Some r) None) made 0 (act_of s t x h w) at (ap (act_of s t x h) wants)
due-place s t x h None (Some reason) made i HasRead w at wants = at-due (acts_of None (Some reason)) made 0 (act_of s t x h w) at (ap (act_of s t x h) wants)
due-place s t x h None None made i HasRead w at wants = at-due (acts_of None None) made 0 (act_of s t x h w) at (ap (act_of s t x h) wants)
due-place s t x h (Some r) (Some reason) made i HasWritten w at wants =
    at-due (acts_of (Some r) (Some reason)) made 1 (act_of s t x h w) at.0 (ap (act_of s t x h) wants)
due-place s t x h (Some r) None made i HasWritten w at wants = at-due (acts_of (Some r) None) made 1 (act_of s t x h w) at.0 (ap (act_of s t x h) wants)
due-place s t x h None ends made i HasWritten w at wants = absurd (cc (at.1))
due-place s t x h (Some r) (Some reason) made i Over w at wants =
    at-due (acts_of (Some r) (Some reason)) made 2 (act_of s t x h w) at.0 (ap (act_of s t x h) (ends-want reason w wants))
due-place s t x h None (Some reason) made i Over w at wants =
    at-due (acts_of None (Some reason)) made 1 (act_of s t x h w) at.0 (ap (act_of s t x h) (ends-want reason w wants))
due-place s t x h writes None made i Over w at wants = absurd (cc)
due-place s t x h (Some r) None made i Outside w at wants = past-due (acts_of (Some r) None) made (act_of s t x h w) (omega (arith, at.0))
due-place s t x h None None made i Outside w at wants = past-due (acts_of None None) made (act_of s t x h w) (omega (arith, at.0))
due-place s t x h writes (Some reason) made i Outside w at wants = absurd (cc (at.1))
due-place s t x h writes ends made i _ w at wants = absurd at

-- **under the reserve what is due from the CTLREAD on is the next act**
pub acts-due : (s : Scen) (t : List Entry) (x : Site) (h : List Event) → IsHistory (settings s x) h → is_drop (purpose h) ≡ false → has_read h ≡ true
    → IsNext (slice_get (acts_of (to_write (settings s x) h) (to_end (settings s x) h)) (made_since_read h)) (act_of s t x h (next (settings s x) h))
acts-due s t x h is no_drop has =
    let p = settings s x in
    let stage = stages p h is (has-both (is_drop (purpose h)) (has_read h) no_drop has) in
    due-place s t x h (to_write p h) (to_end p h) (made_since_read h) (inside p h) (phase p h) (next p h) stage
    (want-in p h (phase p h) no_drop (phase-next p h is) stage)
