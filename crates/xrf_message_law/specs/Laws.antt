-- The law of the messages: slots that are kept as a list.
use Rattle.std.specs.Prelude.{List, ℕ}
use Rattle.xrf_gated.specs.declared.gated.Slot.{Slot}
use Rattle.xrf_trace.specs.declared.entry.Entry.{Entry}
use Rattle.xrf_trace.specs.Scenario.{Scen}
use Rattle.xrf_message_law.specs.MayLand.{ListMayLand}
use Rattle.xrf_message_law.specs.KeptSlots.{Stand, StandAfter}

-- slots that are kept as a list and stand as those of a run meet the conditions of the landings
abbrev pub ListsMayLand : Scen → List Entry → Type 0
ListsMayLand s t = (slots : List Slot) → Stand t s.settings.ring slots → ListMayLand s t slots

-- and stand so after each entry, once what landed of it is landed in them
abbrev pub SlotsStand : Type 0
SlotsStand = (t : List Entry) (e : Entry) (ring : ℕ) (slots : List Slot) → Stand t ring slots → StandAfter t e ring slots
