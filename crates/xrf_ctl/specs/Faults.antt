-- Which field of 256 bytes is the first that is at fault.
use Rattle.std.specs.Prelude.{◌≡◌, ◌≢◌, ℕ, List, [], ◌∷◌, slice_index, Option, ◌⊎◌}
use Rattle.xrf_ctl.specs.declared.parts.Owner.{Owner}
use Rattle.xrf_ctl.specs.declared.parts.Alt.{Alt}
use Rattle.xrf_ctl.specs.declared.parts.Taking.{Taking}
use Rattle.xrf_ctl.specs.declared.fault.Field.{Field}
use Rattle.xrf_ctl.specs.declared.fault.Field.TheVariants as field
use Rattle.xrf_ctl.specs.Control.{IsFormat, OwnerFits, AltFits, TakingFits}
use Rattle.xrf_ctl.specs.Places.{zeros, part, number_at}
use Rattle.xrf_ctl.specs.Layout.{eye, owner_bytes, alt_bytes, taking_bytes}

abbrev pub last_at : List ℕ → ℕ
last_at bytes = number_at bytes 8 4

-- what the bytes of a part spell, under that part of the rule
abbrev pub HasOwner : List ℕ → Option Owner → Type 0
HasOwner bytes o = (part bytes 12 8 ≡ owner_bytes o) × OwnerFits (last_at bytes) o

abbrev pub HasAlt : List ℕ → Option Owner → Option Alt → Type 0
HasAlt bytes o a = (part bytes 20 8 ≡ alt_bytes a) × AltFits (last_at bytes) o a

abbrev pub HasTaking : List ℕ → Option Alt → Option Taking → Type 0
HasTaking bytes a t = (part bytes 28 8 ≡ taking_bytes t) × TakingFits (last_at bytes) a t

-- the field is spelled as it must be, and keeps its part of the rule
abbrev pub Holds : List ℕ → Field → Type 0
Holds bytes field.Eye = part bytes 0 4 ≡ eye
Holds bytes field.Format = IsFormat (number_at bytes 4 2)
-- a last of 0 beside an owner's flag of 1 is a fault of last
Holds bytes field.Last = last_at bytes ≡ 0 → slice_index bytes 12 ≢ 1
Holds bytes field.Owner = (o : Option Owner) × HasOwner bytes o
Holds bytes field.Alt = (o : Option Owner) × (a : Option Alt) × HasOwner bytes o × HasAlt bytes o a
Holds bytes field.Taking = (o : Option Owner) × (a : Option Alt) × (t : Option Taking) × HasOwner bytes o × HasAlt bytes o a × HasTaking bytes a t
Holds bytes field.Reserved = (part bytes 6 2 ≡ zeros 2) × (part bytes 36 220 ≡ zeros 220)

abbrev pub order : List Field
order = field.Eye ∷ field.Format ∷ field.Last ∷ field.Owner ∷ field.Alt ∷ field.Taking ∷ field.Reserved ∷ []

-- the first of some fields that does not hold
abbrev pub IsFirst : List ℕ → List Field → Field → Type 0
IsFirst bytes [] f = ⊥
IsFirst bytes (g ∷ gs) f = ((g ≡ f) × ¬ Holds bytes g) ⊎ (Holds bytes g × IsFirst bytes gs f)

abbrev pub IsFault : List ℕ → Field → Type 0
IsFault bytes f = IsFirst bytes order f
