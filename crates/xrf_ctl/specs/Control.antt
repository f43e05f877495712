-- The control record: which region owns the data sets, which one stands by, and which one is taking over.
use Rattle.std.specs.Prelude.{◌≡◌, ◌≢◌, ℕ, ◌<◌, ◌≤◌, ◌^◌, ◌⊎◌, Option, Some, None}
use Rattle.xrf_ctl.specs.declared.parts.Owner.{Owner}
use Rattle.xrf_ctl.specs.declared.parts.Alt.{Alt}
use Rattle.xrf_ctl.specs.declared.parts.Taking.{Taking}

-- the record's format, the last incarnation that was given, and the parts that may be there
pub record ControlRecord : Type 0 where
  pub format : ℕ
  pub last : ℕ
  pub owner : Option Owner
  pub alt : Option Alt
  pub taking : Option Taking

abbrev pub of_parts : ℕ → ℕ → Option Owner → Option Alt → Option Taking → ControlRecord
of_parts format last owner alt taking = record { format = format; last = last; owner = owner; alt = alt; taking = taking }

-- what stands in the data set before the first sign-on
abbrev pub empty : ControlRecord
empty = of_parts 1 0 None None None

abbrev pub IsFormat : ℕ → Type 0
IsFormat format = (format ≡ 1) ⊎ (format ≡ 2)

-- an incarnation that is there is from 1 to last
abbrev pub IsGiven : ℕ → ℕ → Type 0
IsGiven last inc = (1 ≤ inc) × (inc ≤ last)

abbrev pub OwnerFits : ℕ → Option Owner → Type 0
OwnerFits last None = Unit {0}
OwnerFits last (Some o) = IsGiven last o.inc

-- an alternate needs an owner, another incarnation than the owner's and the other site
abbrev pub AltFits : ℕ → Option Owner → Option Alt → Type 0
AltFits last owner None = Unit {0}
AltFits last None (Some a) = ⊥
AltFits last (Some o) (Some a) = IsGiven last a.inc × (a.inc ≢ o.inc) × (a.site ≢ o.site)

-- a taking needs an alternate and has its incarnation
abbrev pub TakingFits : ℕ → Option Alt → Option Taking → Type 0
TakingFits last alt None = Unit {0}
TakingFits last None (Some t) = ⊥
TakingFits last (Some a) (Some t) = IsGiven last t.inc × (t.inc ≡ a.inc)

-- the rule that every control record keeps
pub record KeepsRule (r : ControlRecord) : Type 0 where
  pub owner : OwnerFits r.last r.owner
  pub alt : AltFits r.last r.owner r.alt
  pub taking : TakingFits r.last r.alt r.taking

-- a control record: of a format that there is, under the rule, its numbers of 32 bits
pub record IsControl (r : ControlRecord) : Type 0 where
  pub format : IsFormat r.format
  pub last : r.last < 2 ^ 32
  pub rule : KeepsRule r
