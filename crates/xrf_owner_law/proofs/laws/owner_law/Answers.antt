use Rattle.xrf_owner_law.proofs.OneUpdaterLaw as updater
use Rattle.xrf_owner_law.proofs.OwnHandLaw as hand
use Rattle.xrf_owner_law.proofs.StartLaw as start
use Rattle.xrf_owner_law.proofs.ThroughLaw as through
use Rattle.xrf_owner_law.proofs.SilenceLaw as silent
use Rattle.xrf_owner_law.proofs.FormatLaw as format
use Rattle.xrf_owner_law.proofs.KnownLaw as known
use Rattle.xrf_owner_law.proofs.NextIsDueLaw as due
use Rattle.xrf_owner_law.proofs.DecisionLaw as decide
use Rattle.xrf_owner_law.proofs.laws.owner_law.Goals as goal

pub returns : goal.returns
returns c = record {
  one_updater = λ s t ranges is few. updater.one-updater s t is;
  own_hand = λ s t ranges is few. hand.own-hand s t is;
  start_by_cause = λ s t ranges is few. start.start-by-cause s t is;
  through_by_proof = λ s t ranges is few. through.through-by-proof s t is;
  silent_once_seen = λ s t ranges is few. silent.silent-once-seen s t is;
  format_by_level = λ s t ranges is few. format.format-by-level s t is;
  one_owner = λ s t ranges is few. known.one-owner s t is;
  next_is_due = λ s t ranges is few. due.next-is-due s t is;
  starts_as_written = λ s t ranges is few. decide.starts-as-written s t is;
  items_wait = λ s t ranges is few. decide.items-wait s t is;
  known = λ s t ranges is few. known.known s t is few;
  writes_known = λ s t ranges is few. known.writes-known s t is;
}
