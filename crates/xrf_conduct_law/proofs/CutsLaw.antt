-- In every run only a signal is lost, only what may fail fails, and a stop cuts a write or comes between two acts.
use Rattle.std.proofs.Common.{◌≡◌, true, List, [], ◌∷◌, refl, subst}
use Rattle.xrf_trace.specs.declared.entry.Entry.{Entry}
use Rattle.xrf_trace.specs.declared.entry.Act.{Act}
use Rattle.xrf_trace.specs.declared.entry.Act.TheVariants as act
use Rattle.xrf_trace.specs.declared.entry.Land.{Land}
use Rattle.xrf_trace.specs.declared.entry.Land.TheVariants as land
use Rattle.xrf_trace.specs.Scenario.{Scen}
use Rattle.xrf_trace.specs.Runs.{IsRun}
use Rattle.xrf_trace.proofs.Steps.{Step, OfTick, OfConfirm, OfStart, OfChoice, OfAct, OfStop, CanLand, run-step}
use Rattle.xrf_trace.proofs.AtSites.{each-of}
use Rattle.xrf_trace.specs.Acts.{is_write}
use Rattle.xrf_trace.specs.CutsAsMay.{may_stop, MayBeCut, CutsAsMay}

-- a write may be cut
write-stops : (a : Act) → is_write a ≡ true → may_stop a ≡ true
write-stops act.NoAct is = refl
write-stops _ is = is

-- what may land so may be cut so
can-cut : (t : List Entry) (a : Act) (l : Land) → CanLand t a l → MayBeCut l a
can-cut t a land.Full can = tt
can-cut t a land.Lost can = can
can-cut t a (land.Stop cut) can = write-stops a can.0
can-cut t a (land.Fail cut) can = can.0

-- however an entry comes
of-step : (s : Scen) (t : List Entry) (e : Entry) → Step s t e → MayBeCut e.land e.act
of-step s t e (OfTick made) = subst (λ (e : Entry). MayBeCut e.land e.act) made tt
of-step s t e (OfConfirm n may made) = subst (λ (e : Entry). MayBeCut e.land e.act) made tt
of-step s t e (OfStart x a start none made) = subst (λ (e : Entry). MayBeCut e.land e.act) made tt
of-step s t e (OfChoice x h a is reach made) = subst (λ (e : Entry). MayBeCut e.land e.act) made tt
of-step s t e (OfAct x h a l is next_is can made) = subst (λ (e : Entry). MayBeCut e.land e.act) made (can-cut t a l can)
of-step s t e (OfStop x h cut is made) = subst (λ (e : Entry). MayBeCut e.land e.act) made refl

-- **cuts are as may be, in every run**
pub cuts-as-may : (s : Scen) (t : List Entry) → IsRun s t → CutsAsMay t
cuts-as-may s t is = each-of s (λ t e. MayBeCut e.land e.act) (λ t e is. of-step s t e (run-step s t e is)) t is
