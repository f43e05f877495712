-- What the data sets of the log hold after every entry of a run.
use Rattle.std.specs.Prelude.{List, [], length, true, ◌+◌, ◌≡◌, ◌≤◌, ℕ}
use Rattle.xrf_gated.specs.Slots.{is_open}
use Rattle.xrf_log.specs.Flight.{flight}
use Rattle.xrf_trace.specs.declared.entry.Entry.{Entry}
use Rattle.xrf_trace.specs.Devices.{key_slot, log_slot}
use Rattle.xrf_trace.specs.Log.{log, start}
use Rattle.xrf_trace.specs.Scenario.{Scen}
use Rattle.xrf_trace.specs.FileIsBook.{IsBookAt}
use Rattle.xrf_log_law.specs.LogSlots.{HoldsLast}
use Rattle.xrf_log_law.specs.State.{KeysStand, key_number}

pub record DataSetsStand (s : Scen) (t : List Entry) : Type 0 where
  -- where no unit is in flight the file is the book
  pub book : flight (log t) ≡ [] → IsBookAt s t
  -- the log has room for its flight
  pub within : start t ≤ length (log t)
  pub room : length (log t) + length (flight (log t)) ≤ start t + s.settings.log
  pub count : length (log t) ≤ length t
  -- each open slot of the log holds the last record of its residue
  pub slots : (i : ℕ) → is_open (log_slot s t i) ≡ true → HoldsLast s.settings.log (log t) i (log_slot s t i)
  -- the KEY slots stand for the keypoint in force
  pub keys : KeysStand (key_number t) (start t) (key_slot t)
