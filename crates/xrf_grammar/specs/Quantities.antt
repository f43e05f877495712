-- The settings that are one number: how each is spelled, its range, its default, and where it stands.
use Rattle.std.specs.Prelude.{ℕ, List, [], ◌∷◌, codes, IsTrue}
use Rattle.xrf_grammar.specs.declared.form.Part.{Part}
use Rattle.xrf_grammar.specs.declared.form.Part.TheVariants.{Number, Multiple}
use Rattle.xrf_grammar.specs.declared.quantity.Quantity.{Quantity}
use Rattle.xrf_grammar.specs.declared.quantity.Quantity.TheVariants.{Adi, Pdi, Log, Ring, File, Pace, Ticks}
use Rattle.xrf_grammar.specs.Operands.{is_multiple_of}
use Rattle.xrf_setup.specs.Ranges.{IsIn}
use Rattle.xrf_setup.specs.declared.ranges.TheConstants.{INTERVAL_LEAST, INTERVAL_MOST, LOG_LEAST, LOG_MOST, LOG_UNIT, RING_LEAST, RING_MOST, FILE_LEAST, FILE_MOST, PACE_LEAST, PACE_MOST, TICKS_MOST}
use Rattle.xrf_setup.specs.declared.settings.Settings.{Settings}

-- the quantities, in the order in which they are written
abbrev pub quantities : List Quantity
quantities = Adi ∷ Pdi ∷ Log ∷ Ring ∷ File ∷ Pace ∷ Ticks ∷ []

-- where each stands among them
abbrev pub place_of : Quantity → ℕ
place_of Adi = 0
place_of Pdi = 1
place_of Log = 2
place_of Ring = 3
place_of File = 4
place_of Pace = 5
place_of Ticks = 6

-- how it is spelled
abbrev pub quantity_text : Quantity → List ℕ
quantity_text Adi = codes "ADI"
quantity_text Pdi = codes "PDI"
quantity_text Log = codes "LOG"
quantity_text Ring = codes "RING"
quantity_text File = codes "FILE"
quantity_text Pace = codes "PACE"
quantity_text Ticks = codes "TICKS"

-- the part of its line that is its number
abbrev pub range_of : Quantity → Part
range_of Adi = Number INTERVAL_LEAST INTERVAL_MOST
range_of Pdi = Number INTERVAL_LEAST INTERVAL_MOST
range_of Log = Multiple LOG_LEAST LOG_MOST LOG_UNIT
range_of Ring = Number RING_LEAST RING_MOST
range_of File = Number FILE_LEAST FILE_MOST
range_of Pace = Number PACE_LEAST PACE_MOST
range_of Ticks = Number 0 TICKS_MOST

-- the numbers of such a part
abbrev pub IsOfRange : Part → ℕ → Type 0
IsOfRange (Number least most) n = IsIn least most n
IsOfRange (Multiple least most unit) n = IsIn least most n × IsTrue (is_multiple_of n unit)
IsOfRange _ n = ⊥

-- its number where no line gives it
abbrev pub default_of : Quantity → ℕ
default_of Adi = 30
default_of Pdi = 30
default_of Log = 64
default_of Ring = 16
default_of File = 16
default_of Pace = 40
default_of Ticks = 60

-- its number among settings
abbrev pub quantity_of : Settings → Quantity → ℕ
quantity_of t Adi = t.adi
quantity_of t Pdi = t.pdi
quantity_of t Log = t.log
quantity_of t Ring = t.ring
quantity_of t File = t.file
quantity_of t Pace = t.pace
quantity_of t Ticks = t.ticks
