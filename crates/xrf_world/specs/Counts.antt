-- How what is counted of a trace stands for it: the tick, the confirmations, and the log.
use Rattle.std.specs.Prelude.{◌≡◌, ◌≤◌, ◌<◌, ◌+◌, ℕ, true, false, List, ◌∷◌, length, slice_index_or, vec_capacity}
use Rattle.xrf_log.specs.Flight.{flight, has_ended}
use Rattle.xrf_logrec.specs.declared.records.LogRec.{LogRec}
use Rattle.xrf_logrec.specs.declared.records.LogRec.TheVariants.{Commit}
use Rattle.xrf_logrec.specs.LogRecords.{unit_of}
use Rattle.xrf_setup.specs.declared.ranges.TheConstants.{CHOICES_MOST}
use Rattle.xrf_trace.specs.declared.entry.Act.{Act}
use Rattle.xrf_trace.specs.declared.entry.Act.TheVariants as act
use Rattle.xrf_trace.specs.declared.entry.Entry.{Entry}
use Rattle.xrf_trace.specs.declared.entry.Land.{Land}
use Rattle.xrf_trace.specs.Landing.{opens}
use Rattle.xrf_trace.specs.Log.{log, committed}
use Rattle.xrf_trace.specs.Scenario.{Scen}
use Rattle.xrf_trace.specs.Words.{now, confirmed}
use Rattle.xrf_world.specs.declared.log_count.LogCount.{LogCount}
use Rattle.xrf_world.specs.declared.counts.Counts.{Counts}

-- the numbers of a log, and its units in flight
pub record LogIs (count : LogCount) (held : List LogRec) : Type 0 where
  pub records : count.records ≡ length held
  pub committed : count.committed ≡ length (committed held)
  pub flight : count.flight.items ≡ flight held

-- how many units a record commits
abbrev pub commits : LogRec → ℕ
commits (Commit unit) = 1
commits _ = 0

-- A number is marked where it is confirmed; there is a mark for each number from 0 to that of the last choice. The units
-- in flight have room for as many as the log has slots.
pub record CountsAre (counts : Counts) (s : Scen) (t : List Entry) : Type 0 where
  pub tick : counts.tick ≡ now t
  pub confirmed : (n : ℕ) → slice_index_or counts.confirmed.items n false ≡ confirmed t n
  pub marks : length counts.confirmed.items ≡ CHOICES_MOST + 1
  pub log : LogIs counts.log (log t)
  pub room : s.settings.log ≤ vec_capacity counts.log.flight

-- a number that an act confirms has a mark
abbrev pub IsMarked : ℕ → Act → Type 0
IsMarked marks (act.Confirm n) = n < marks
IsMarked marks _ = Unit {0}

-- a record is of a unit that has not ended, and its log has this many slots
pub record Joins (slots : ℕ) (records : List LogRec) (rec : LogRec) : Type 0 where
  pub open_unit : has_ended (unit_of rec) records ≡ false
  pub few : length records < 16384
  pub room : length (flight (rec ∷ records)) ≤ slots

-- so is a record that an act opens in the log
abbrev pub JoinsIf : ℕ → List LogRec → Act → Land → Type 0
JoinsIf slots records (act.LogOpen p rec) land = opens land ≡ true → Joins slots records rec
JoinsIf slots records _ land = Unit {0}

-- what an entry asks of the counts
pub record CanCount (s : Scen) (t : List Entry) (e : Entry) : Type 0 where
  pub marked : IsMarked (CHOICES_MOST + 1) e.act
  pub joins : JoinsIf s.settings.log (log t) e.act e.land
  pub few : now t < 16384
