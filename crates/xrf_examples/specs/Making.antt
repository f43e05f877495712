-- How the entries of a worked run are written, and what its report tells beside them.
use Rattle.std.specs.Prelude.{ℕ, List, [], length, map, Option, Some}
use Rattle.std.specs.Option.{option_map_or}
use Rattle.std.specs.List.{range_with_len}
use Rattle.xrf_base.specs.declared.items.ItemAnswer.{ItemAnswer}
use Rattle.xrf_base.specs.declared.items.UnitId.{UnitId}
use Rattle.xrf_base.specs.declared.site.Site.{Site}
use Rattle.xrf_base.specs.declared.site.Site.TheVariants.{A, B}
use Rattle.xrf_base.specs.Values.{slot_reading}
use Rattle.xrf_ctl.specs.declared.parts.Owner.{Owner}
use Rattle.xrf_ctl.specs.declared.parts.OwnerState.{OwnerState}
use Rattle.xrf_ctl.specs.declared.parts.Alt.{Alt}
use Rattle.xrf_ctl.specs.declared.parts.Taking.{Taking}
use Rattle.xrf_ctl.specs.declared.parts.Cause.{Cause}
use Rattle.xrf_ctl.specs.Control.{ControlRecord}
use Rattle.xrf_log.specs.Flight.{flight}
use Rattle.xrf_terms.specs.declared.rows.Row.{Row}
use Rattle.xrf_history.specs.Terminals.{table}
use Rattle.xrf_trace.specs.declared.entry.Entry.{Entry}
use Rattle.xrf_trace.specs.declared.entry.Act.{Act}
use Rattle.xrf_trace.specs.declared.entry.Land.{Land}
use Rattle.xrf_trace.specs.declared.entry.Who.{Who}
use Rattle.xrf_trace.specs.Scenario.{Scen, settings}
use Rattle.xrf_trace.specs.Words.{now, items_taken}
use Rattle.xrf_trace.specs.Devices.{control, image}
use Rattle.xrf_trace.specs.Jobs.{hist}
use Rattle.xrf_trace.specs.Log.{log, committed}
use Rattle.xrf_trace.specs.Items.{answer}

abbrev pub entry_of : (tick : ℕ) → Who → (inc : ℕ) → Act → Land → Entry
entry_of tick who inc act land = record { tick = tick; who = who; inc = inc; act = act; land = land }

-- the parts of a control record, and a unit
abbrev pub owner_of : (inc : ℕ) → Site → OwnerState → Option Owner
owner_of inc site state = Some (record { inc = inc; site = site; state = state })

abbrev pub alt_of : (inc : ℕ) → Site → Option Alt
alt_of inc site = Some (record { inc = inc; site = site })

abbrev pub taking_of : (inc : ℕ) → Cause → Option Taking
taking_of inc cause = Some (record { inc = inc; cause = cause })

abbrev pub unit_of : (inc : ℕ) → (serial : ℕ) → UnitId
unit_of inc serial = record { inc = inc; serial = serial }

-- the answers of the items of each site (none while an item is not answered), the tick, the control record, the
-- records of the log with the units committed and in flight, what each record of the file holds (nothing where its
-- bytes are no slot), and the terminal table of each job
pub record Told : Type 0 where
  pub answers_a : List (Option ItemAnswer)
  pub answers_b : List (Option ItemAnswer)
  pub tick : ℕ
  pub held : ControlRecord
  pub records : ℕ
  pub done : ℕ
  pub undone : ℕ
  pub file : List (Option (Option (List ℕ)))
  pub table_a : List Row
  pub table_b : List Row

abbrev pub answers_of : Scen → List Entry → Site → List (Option ItemAnswer)
answers_of s t x = map (λ k. answer s t x k) (range_with_len 1 (items_taken t x))

abbrev pub table_of : Scen → List Entry → Site → List Row
table_of s t x = option_map_or (λ h. table (settings s x) h) (hist s t x) []

abbrev pub told_of : Scen → List Entry → Told
told_of s t = record {
  answers_a = answers_of s t A;
  answers_b = answers_of s t B;
  tick = now t;
  held = control t;
  records = length (log t);
  done = length (committed (log t));
  undone = length (flight (log t));
  file = map (λ k. slot_reading (image s t k)) (range_with_len 1 s.settings.file);
  table_a = table_of s t A;
  table_b = table_of s t B;
}
