-- A stop tears the close of a keypoint slot so that it stays open: the restart goes by the newer of the two keypoints.
use Rattle.std.specs.Prelude.{List, [], ◌∷◌, ◌++◌, replicate, codes, Some, None}
use Rattle.xrf_base.specs.declared.site.Site.TheVariants as site
use Rattle.xrf_base.specs.declared.items.ItemAnswer.TheVariants as answer
use Rattle.xrf_base.specs.Values.{slot_of}
use Rattle.xrf_ctl.specs.declared.parts.OwnerState.TheVariants as state
use Rattle.xrf_ctl.specs.Control.{of_parts}
use Rattle.xrf_ctl.specs.Signal.{of_numbers}
use Rattle.xrf_cavm.specs.declared.decisions.Acting.TheVariants as acting
use Rattle.xrf_cavm.specs.declared.decisions.Decided.TheVariants as decided
use Rattle.xrf_logrec.specs.declared.records.LogRec.TheVariants as rec
use Rattle.xrf_setup.specs.declared.choice.Choice.{Choice}
use Rattle.xrf_setup.specs.declared.choice.Choice.TheVariants as choice
use Rattle.xrf_setup.specs.declared.choice.Landing.TheVariants as landing
use Rattle.xrf_trace.specs.declared.entry.Act.TheVariants as act
use Rattle.xrf_trace.specs.declared.entry.Entry.{Entry}
use Rattle.xrf_trace.specs.declared.entry.Land.TheVariants as land
use Rattle.xrf_trace.specs.declared.entry.Who.TheVariants as who
use Rattle.xrf_examples.specs.Making.{Told, entry_of, owner_of, unit_of}
use Rattle.xrf_long_runs.specs.KeypointIsDue.{keypoint_is_due, to_keypoint_is_due}
pub use Rattle.xrf_long_runs.specs.KeypointIsDue.{scenario}

abbrev pub choices : List Choice
choices =
    to_keypoint_is_due ++ choice.Stop site.A (landing.Torn (193 ∷ [])) ∷ choice.Confirm 1 ∷ choice.StartActive site.A ∷
    replicate 16 (choice.Step site.A)

abbrev pub trace : List Entry
trace =
    entry_of 0 who.A 2 (act.LogBody 92 (rec.Backout (unit_of 1 31))) land.Full ∷
    entry_of 0 who.A 2 (act.LogClose 92) land.Full ∷
    entry_of 0 who.A 2 (act.LogLook 92) land.Full ∷
    entry_of 0 who.A 2 (act.Undo 1 (slot_of (Some (codes "V30")))) land.Full ∷
    entry_of 0 who.A 2 (act.Undo 2 (slot_of (Some (codes "W30")))) land.Full ∷
    entry_of 0 who.A 2 (act.LogRead 0) land.Full ∷
    entry_of 0 who.A 2 (act.LogRead 0) land.Full ∷
    entry_of 0 who.A 2 (act.Decide (decided.Owner acting.Nothing)) land.Full ∷
    entry_of 0 who.A 2 act.Look2 land.Full ∷
    entry_of 0 who.A 2 act.Look1 land.Full ∷
    entry_of 0 who.A 2 (act.Signal2 (of_numbers 2 1 0)) land.Full ∷
    entry_of 0 who.A 2 (act.Signal1 (of_numbers 2 1 0)) land.Full ∷
    entry_of 0 who.A 2 act.Release land.Full ∷
    entry_of 0 who.A 2 (act.CtlWrite (of_parts 1 2 (owner_of 2 site.A state.Running) None None)) land.Full ∷
    entry_of 0 who.A 0 act.CtlRead land.Full ∷
    entry_of 0 who.A 0 act.Reserve land.Full ∷
    entry_of 0 who.A 0 act.StartActive land.Full ∷
    entry_of 0 who.Env 0 (act.Confirm 1) land.Full ∷
    entry_of 0 who.A 1 (act.KpClose 1) (land.Stop (landing.Torn (193 ∷ []))) ∷
    keypoint_is_due

abbrev pub told : Told
told = record {
  answers_a = replicate 123 (Some answer.Done);
  answers_b = [];
  tick = 0;
  held = of_parts 1 2 (owner_of 2 site.A state.Running) None None;
  records = 92;
  done = 30;
  undone = 1;
  file = Some (Some (codes "V30")) ∷ Some (Some (codes "W30")) ∷ Some None ∷ Some None ∷ [];
  table_a = [];
  table_b = [];
}
