-- What is safe of a trace.
use Rattle.std.specs.Prelude.{List}
use Rattle.xrf_trace.specs.declared.entry.Entry.{Entry}
use Rattle.xrf_trace.specs.Scenario.{Scen}
use Rattle.xrf_trace.specs.OneUpdater.{OneUpdater}
use Rattle.xrf_trace.specs.OwnHand.{OwnHand}
use Rattle.xrf_trace.specs.FileIsBook.{FileIsBook}
use Rattle.xrf_trace.specs.TableIsTracked.{TableIsTracked}
use Rattle.xrf_trace.specs.StartByCause.{StartByCause}
use Rattle.xrf_trace.specs.ThroughByProof.{ThroughByProof}
use Rattle.xrf_trace.specs.SilentOnceSeen.{SilentOnceSeen}
use Rattle.xrf_trace.specs.FormatByLevel.{FormatByLevel}

pub record Safe (s : Scen) (t : List Entry) : Type 0 where
  pub one_updater : OneUpdater s t
  pub own_hand : OwnHand s t
  pub file_is_book : FileIsBook s t
  pub table_is_tracked : TableIsTracked s t
  pub start_by_cause : StartByCause s t
  pub through_by_proof : ThroughByProof s t
  pub silent_once_seen : SilentOnceSeen s t
  pub format_by_level : FormatByLevel s t
