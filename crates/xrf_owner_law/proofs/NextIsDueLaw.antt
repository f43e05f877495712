-- What is due of a start and of a through is the next act, of every run.
use Rattle.std.proofs.Common.{List, Some, ap, ◌≡◌, None, Option, arith, slice_get, [], refl, subst, sym, ◌&&◌, is_some, true, ◌∙◌, ◌∷◌}
use Rattle.std.proofs.lemmas.Bool.{and_parts}
use Rattle.xrf_base.specs.declared.site.Site.{Site}
use Rattle.xrf_base.specs.declared.site.Site.TheVariants as site
use Rattle.xrf_ctl.specs.declared.parts.Cause.{Cause}
use Rattle.xrf_ctl.specs.Control.{ControlRecord}
use Rattle.xrf_history.specs.Events.{Event}
use Rattle.xrf_history.specs.Next.{next, write_next, after_control_read, record_for}
use Rattle.xrf_history.specs.Reserving.{last_decision, record_read, start_in, is_through_decision}
use Rattle.xrf_history.specs.Progress.{made_since_decision}
use Rattle.xrf_history.specs.Holding.{number, is_tracking, is_waiting}
use Rattle.xrf_history.proofs.Going.{goes-on}
use Rattle.xrf_history.proofs.Phases.{HasRead, HasWritten, Held, NextIn, Phase, has_reserve, phase}
use Rattle.xrf_history.specs.declared.want.Want.{Want}
use Rattle.xrf_history.proofs.PhaseLaws.{next-inside, phase-next}
use Rattle.xrf_history.specs.declared.want.Want.TheVariants as want
use Rattle.xrf_trace.specs.declared.entry.Entry.{Entry}
use Rattle.xrf_trace.specs.Scenario.{Scen, settings}
use Rattle.xrf_trace.specs.Acts.{act_by, act_of, next_act}
use Rattle.xrf_trace.specs.Jobs.{hist}
use Rattle.xrf_trace.specs.NextIsDue.{IsNext, sequence_of_start, StartIsDue, ThroughIsDue, HolderGoesOn, NextIsDue}
use Rattle.xrf_trace.specs.Runs.{IsRun}
use Rattle.xrf_trace.specs.Each.{OfJob, EverySite}
use Rattle.xrf_trace.proofs.AtSites.{of-job, where-so, each-of}
use Rattle.xrf_trace.proofs.Paths.{history-at}
use Rattle.xrf_trace.specs.ThroughByProof.{through_sequence}
use Rattle.xrf_trace.specs.declared.entry.Act.{Act}
use Rattle.xrf_trace.specs.Words.{holds_reserve}
use Rattle.xrf_owner_law.proofs.DueActs.{past-due}
use Rattle.xrf_owner_law.proofs.StartLaw.{start-is-due}
use Rattle.xrf_owner_law.proofs.ThroughActs.{go-due, lets-at}
use Rattle.xrf_owner_law.proofs.Invariant.{reserve-at}

-- the next act of a site is that of its job
act-at : (s : Scen) (t : List Entry) (x : Site) (h : List Event) → hist s t x ≡ Some h → next_act s t x ≡ act_of s t x h (next (settings s x) h)
act-at s t x h here = ap (act_by s t x) here

-- a start
start-now : (s : Scen) (t : List Entry) (x : Site) (h : List Event) (o : Option Cause) → IsRun s t → hist s t x ≡ Some h → start_in (last_decision h) ≡ o
    → IsNext (slice_get (sequence_of_start (record_read h) (number h) o) (made_since_decision h)) (act_of s t x h (next (settings s x) h))
start-now s t x h None is here last = past-due [] (made_since_decision h) (act_of s t x h (next (settings s x) h)) (omega arith)
start-now s t x h (Some why) is here last = start-is-due s t x h why is here last

-- what is due of a start is the next act
starts-at : (s : Scen) (t : List Entry) (x : Site) → IsRun s t → OfJob (hist s t x) (StartIsDue s t x)
starts-at s t x is = of-job (hist s t x) (StartIsDue s t x) (λ h here.
    let acts = sequence_of_start (record_read h) (number h) (start_in (last_decision h)) in
    where-so (is_tracking h) (IsNext (slice_get acts (made_since_decision h)) (next_act s t x)) (λ tracking.
    subst (IsNext (slice_get acts (made_since_decision h))) (sym (act-at s t x h here)) (start-now s t x h (start_in (last_decision h)) is here refl)))

-- a through
throughs-at : (s : Scen) (t : List Entry) (x : Site) → IsRun s t → OfJob (hist s t x) (ThroughIsDue s t x)
throughs-at s t x is = of-job (hist s t x) (ThroughIsDue s t x) (λ h here.
    let acts = through_sequence x (settings s x).level (number h) (record_read h) in
    where-so (is_waiting h && is_through_decision (last_decision h)) (IsNext (slice_get acts (made_since_decision h)) (next_act s t x)) (λ goes.
    let p = settings s x in
    let through = (and_parts (is_waiting h) (is_through_decision (last_decision h)) goes).1 in
    let path = history-at s t x h is here in
    subst (IsNext (slice_get acts (made_since_decision h))) (sym (act-at s t x h here))
    (go-due s t x h path through (goes-on p h path (lets-at s t x h is here) through))))

-- the holder of the reserve
holds-some : (o : Option ControlRecord) (s : Scen) (t : List Entry) (x : Site) (h : List Event) → is_some (act_of s t x h (write_next o)) ≡ true
holds-some None s t x h = refl
holds-some (Some w) s t x h = refl

-- who holds the reserve has a next act
holder-next : (s : Scen) (t : List Entry) (x : Site) (h : List Event) (f : Phase) → NextIn (settings s x) h f → has_reserve f ≡ true
    → is_some (act_of s t x h (next (settings s x) h)) ≡ true
holder-next s t x h Held at holds = ap (λ (w : Want). is_some (act_of s t x h w)) (next-inside (settings s x) h want.CtlRead at)
holder-next s t x h HasRead at holds =
    let p = settings s x in
    ap (λ (w : Want). is_some (act_of s t x h w)) (next-inside p h (after_control_read p h) at) ∙ holds-some (record_for p h) s t x h
holder-next s t x h HasWritten at holds = ap (λ (w : Want). is_some (act_of s t x h w)) (next-inside (settings s x) h want.Release at)
holder-next s t x h _ at holds = absurd (cc)

-- the holder of the reserve has a next act
holders-at : (s : Scen) (t : List Entry) (x : Site) → IsRun s t → OfJob (hist s t x) (λ h. HolderGoesOn s t x)
holders-at s t x is = of-job (hist s t x) (λ h. HolderGoesOn s t x) (λ h here.
    where-so (holds_reserve t x) (is_some (next_act s t x) ≡ true) (λ holds.
    let p = settings s x in
    ap (λ (o : Option Act). is_some o) (act-at s t x h here)
    ∙ holder-next s t x h (phase p h) (phase-next p h (history-at s t x h is here)) (sym (reserve-at s t x h is here) ∙ holds)))

-- **what is due is the next act, of every run**
pub next-is-due : (s : Scen) (t : List Entry) → IsRun s t → NextIsDue s t
next-is-due s t is = record {
  starts = each-of s (λ before e. EverySite s (e ∷ before) (StartIsDue s (e ∷ before)))
      (λ t e is. (starts-at s (e ∷ t) site.A is, starts-at s (e ∷ t) site.B is)) t is;
  throughs = each-of s (λ before e. EverySite s (e ∷ before) (ThroughIsDue s (e ∷ before)))
      (λ t e is. (throughs-at s (e ∷ t) site.A is, throughs-at s (e ∷ t) site.B is)) t is;
  holders = each-of s (λ before e. EverySite s (e ∷ before) (λ x h. HolderGoesOn s (e ∷ before) x))
      (λ t e is. (holders-at s (e ∷ t) site.A is, holders-at s (e ∷ t) site.B is)) t is;
}
