-- What a World knows of its run, and what a choice leaves of it.
use Rattle.std.proofs.Common.{◌≡◌, ◌≤◌, ◌<◌, ◌∙◌, sym, ap, subst, refl, arith, IsTrue, List, [], ◌∷◌, length, Option, Some, None, Result, Ok, Err}
use Rattle.std.proofs.lemmas.List.{length-reverse}
use Rattle.xrf_exit.specs.Exit.{is_allowed}
use Rattle.xrf_exit.specs.declared.ExitAnswer.{ExitAnswer}
use Rattle.xrf_exit.specs.declared.Notice.{Notice}
use Rattle.xrf_base.specs.declared.site.Site.{Site}
use Rattle.xrf_log.specs.Flight.{flight}
use Rattle.xrf_setup.specs.declared.choice.Choice.{Choice}
use Rattle.xrf_setup.specs.declared.choice.Choice.TheVariants as choice
use Rattle.xrf_setup.specs.declared.ranges.TheConstants.{CHOICES_MOST}
use Rattle.xrf_trace.specs.declared.entry.Entry.{Entry}
use Rattle.xrf_trace.specs.declared.entry.Refused.{Refused}
use Rattle.xrf_trace.specs.FileIsBook.{IsBookAt}
use Rattle.xrf_trace.specs.Log.{log}
use Rattle.xrf_trace.specs.Promises.{Promises}
use Rattle.xrf_trace.specs.Refusals.{exit_refusal, refusal}
use Rattle.xrf_trace.specs.Runs.{IsRun}
use Rattle.xrf_trace.specs.Safe.{Safe}
use Rattle.xrf_trace.specs.Scenario.{IsScen, Scen}
use Rattle.xrf_laws.proofs.EveryRun.{every-run}
use Rattle.xrf_log_law.proofs.LogLaw.{data-sets-stand}
use Rattle.xrf_world.specs.declared.pair.Pair.{Pair}
use Rattle.xrf_world.specs.Making.{Makes}
use Rattle.xrf_world.specs.Report.{notice_at}
use Rattle.xrf_world.specs.Seats.{FewEvents}
use Rattle.xrf_history.specs.Events.{Event}
use Rattle.xrf_trace.specs.Jobs.{hist}
use Rattle.xrf_world.proofs.TimeLaws.{time-of}
use Rattle.xrf_world.specs.Standing.{Goes, IsWorld, Stands, run_of}

-- the trace of a journal is as long as it
trace-few : (pair : Pair) → IsWorld pair → length (run_of pair).trace ≤ CHOICES_MOST
trace-few pair w = omega (arith, w.few, length-reverse pair.middle.journal.items)

-- a World whose journal has room goes on
pub goes-on : (pair : Pair) → IsWorld pair → length pair.middle.journal.items < CHOICES_MOST → Goes pair.middle.scenario (run_of pair).trace
goes-on pair w room = record { scen = w.scen; run = w.run; few = omega (arith, room, length-reverse pair.middle.journal.items) }

-- its run is safe and keeps the promises, and wherever no unit is in flight the file is the book
safe : (pair : Pair) → IsWorld pair → Safe pair.middle.scenario (run_of pair).trace × Promises pair.middle.scenario (run_of pair).trace
safe pair w = every-run pair.middle.scenario (run_of pair).trace w.scen w.run (trace-few pair w)

pub is_safe : (pair : Pair) → IsWorld pair → Safe pair.middle.scenario (run_of pair).trace
is_safe pair w = (safe pair w).0

pub keeps_promises : (pair : Pair) → IsWorld pair → Promises pair.middle.scenario (run_of pair).trace
keeps_promises pair w = (safe pair w).1

pub file_is_book : (pair : Pair) → IsWorld pair → flight (log (run_of pair).trace) ≡ [] → IsBookAt pair.middle.scenario (run_of pair).trace
file_is_book pair w = (data-sets-stand pair.middle.scenario (run_of pair).trace w.scen w.run (trace-few pair w)).book

-- the jobs of its run have few events
few-of-run : (s : Scen) (t : List Entry) (x : Site) → IsRun s t → length t ≤ CHOICES_MOST → FewEvents (hist s t x)
few-of-run s t x is few = by (hist s t x) refl
  where
    by : (job : Option (List Event)) → hist s t x ≡ job → FewEvents job
    by None there = tt
    by (Some h) there = omega (arith, (time-of s t x h is there).few, few)

pub few-jobs : (pair : Pair) → IsWorld pair → (x : Site) → FewEvents (hist pair.middle.scenario (run_of pair).trace x)
few-jobs pair w x = few-of-run pair.middle.scenario (run_of pair).trace x w.run (trace-few pair w)

-- A CHOICE adds its entry, or changes nothing
pub made-world : (old new : Pair) (c : Choice) (r : Result (Unit {0}) Refused) → IsWorld old → length old.middle.journal.items < CHOICES_MOST
    → Makes old (run_of old).trace c r new → IsWorld new
made-world old new c (Err why) w room made = subst (λ (pair : Pair). IsWorld pair) (sym made.1) w
made-world old new c (Ok done) w room made =
    let e : Entry = made.0 in
    let t : List Entry = (run_of old).trace in
    let run : IsRun old.middle.scenario (e ∷ t) = (w.run, (c, made.1)) in
    let same : e ∷ t ≡ (run_of new).trace = sym made.3.middle.journal in
    let count : length (e ∷ t) ≡ length new.middle.journal.items = ap (λ (u : List Entry). length u) same ∙ length-reverse new.middle.journal.items in
    record {
      scen = subst (λ (s : Scen). IsScen s) (sym made.2) w.scen;
      run = subst (λ (u : List Entry). IsRun new.middle.scenario u) same (subst (λ (s : Scen). IsRun s (e ∷ t)) (sym made.2) run);
      few = omega (arith, room, count, length-reverse old.middle.journal.items);
      stands = subst (λ (u : List Entry). Stands new u) same made.3;
    }

-- AN EXIT that is allowed for the pending notice is accepted
allowed-made : (told : Option Notice) (one : Notice) (said : ExitAnswer) → told ≡ Some one → IsTrue (is_allowed one said) → exit_refusal told said ≡ None
allowed-made None one said is may = absurd (cc)
allowed-made (Some told) one said is may = grind (arith, is, may)

pub exit-accepted : (s : Scen) (t : List Entry) (x : Site) (said : ExitAnswer) (told : Notice) → notice_at s t x ≡ Some told → IsTrue (is_allowed told said)
    → refusal s t (choice.Exit x said) ≡ None
exit-accepted s t x said told pending may = allowed-made (notice_at s t x) told said pending may
