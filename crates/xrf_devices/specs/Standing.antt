-- How the bytes of the data sets stand for a trace.
use Rattle.std.specs.Prelude.{◌≡◌, ℕ, ◌*◌, ◌<◌, ◌≤◌, List, length, Option, Some, None}
use Rattle.xrf_base.specs.declared.site.Site.{Site}
use Rattle.xrf_ctl.specs.Control.{ControlRecord}
use Rattle.xrf_ctl.specs.Layout.{Spells}
use Rattle.xrf_ctl.specs.Places.{zeros}
use Rattle.xrf_ctl.specs.Signal.{SignalRecord, SpellsSignal}
use Rattle.xrf_gated.specs.declared.gated.Slot.{Slot}
use Rattle.xrf_gated.specs.Landing.{part}
use Rattle.xrf_gated.specs.Slots.{slot_of}
use Rattle.xrf_trace.specs.declared.entry.Entry.{Entry}
use Rattle.xrf_trace.specs.Scenario.{Scen}
use Rattle.xrf_trace.specs.Devices as trace
use Rattle.xrf_devices.specs.declared.data_sets.DataSets.{DataSets}
use Rattle.xrf_devices.specs.Places.{sector1_place, sector2_place, record_place}

-- DFHXRCTL begins with the control record
abbrev pub ControlIs : List ℕ → ControlRecord → Type 0
ControlIs ctl control = Spells (part ctl 0 256) control

-- a sector spells its signal, and is all zero where none was given
abbrev pub SectorIs : List ℕ → Option SignalRecord → Type 0
SectorIs bytes None = bytes ≡ zeros 64
SectorIs bytes (Some signal) = SpellsSignal bytes signal

-- the sectors of both sites, at their places
abbrev pub SectorsAre : (Site → ℕ) → List ℕ → (Site → Option SignalRecord) → Type 0
SectorsAre place bytes signal = (x : Site) → SectorIs (part bytes (place x) 64) (signal x)

-- gated slots, one by one
abbrev pub SlotsAre : List Slot → (ℕ → Slot) → Type 0
SlotsAre slots slot = (i : ℕ) → i < length slots → slot_of slots i ≡ slot i

-- the slots of the file's records, one by one
abbrev pub FileIs : (records : ℕ) → List ℕ → (ℕ → List ℕ) → Type 0
FileIs records file image = (k : ℕ) → 1 ≤ k → k ≤ records → part file (record_place k) 32 ≡ image k

-- The data sets stand for a trace of a scenario: they have their sizes, and each part of them is that of the trace.
pub record StandsFor (d : DataSets) (s : Scen) (t : List Entry) : Type 0 where
  pub ctl_size : length d.ctl ≡ 384
  pub signals_size : length d.signals ≡ 128
  pub messages_size : length d.messages ≡ s.settings.ring
  pub log_size : length d.log ≡ s.settings.log
  pub file_size : length d.file ≡ 32 * s.settings.file
  pub key_size : length d.key ≡ 2
  pub control : ControlIs d.ctl (trace.control t)
  pub sector1 : SectorsAre sector1_place d.ctl (trace.sector1 t)
  pub sector2 : SectorsAre sector2_place d.signals (trace.sector2 t)
  pub messages : SlotsAre d.messages (trace.message_slot t)
  pub log : SlotsAre d.log (trace.log_slot s t)
  pub key : SlotsAre d.key (trace.key_slot t)
  pub file : FileIs s.settings.file d.file (trace.image s t)
