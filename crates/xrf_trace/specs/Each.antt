-- How a clause on a trace is said: of each entry, against the trace before it.
use Rattle.std.specs.Prelude.{◌≡◌, ℕ, Bool, true, false, List, [], ◌∷◌, slice_get, Option, Some, None}
use Rattle.xrf_base.specs.declared.site.Site.{Site}
use Rattle.xrf_base.specs.declared.site.Site.TheVariants as site
use Rattle.xrf_history.specs.Events.{Event}
use Rattle.xrf_trace.specs.declared.entry.Entry.{Entry}
use Rattle.xrf_trace.specs.declared.entry.Act.{Act}
use Rattle.xrf_trace.specs.declared.entry.Who.{Who}
use Rattle.xrf_trace.specs.declared.entry.Who.TheVariants as who
use Rattle.xrf_trace.specs.Scenario.{Scen}
use Rattle.xrf_trace.specs.Jobs.{hist}

-- of each entry and the trace before it
abbrev pub Each : (List Entry → Entry → Type 0) → List Entry → Type 0
Each fact [] = Unit {0}
Each fact (e ∷ t) = Each fact t × fact t e

-- a fact where a test is met
abbrev pub Where : Bool → Type 0 → Type 0
Where true fact = fact
Where false fact = Unit {0}

-- a fact of the site of an entry and of the job that is there right before it
abbrev pub OfJob : Option (List Event) → (List Event → Type 0) → Type 0
OfJob None fact = Unit {0}
OfJob (Some h) fact = fact h

abbrev pub AtSite : Scen → List Entry → Who → (Site → List Event → Type 0) → Type 0
AtSite s t who.A fact = OfJob (hist s t site.A) (fact site.A)
AtSite s t who.B fact = OfJob (hist s t site.B) (fact site.B)
AtSite s t who.Env fact = Unit {0}

-- of the job that is at each site
abbrev pub EverySite : Scen → List Entry → (Site → List Event → Type 0) → Type 0
EverySite s t fact = OfJob (hist s t site.A) (fact site.A) × OfJob (hist s t site.B) (fact site.B)

-- of the trace after each entry
abbrev pub After : (List Entry → Type 0) → List Entry → Type 0
After fact t = Each (λ before e. fact (e ∷ before)) t

-- an act is the one that stands in its place of a sequence, as far as the sequence goes
abbrev pub IsAct : Option Act → Act → Type 0
IsAct (Some wanted) a = a ≡ wanted
IsAct None a = Unit {0}

abbrev pub InPlace : List Act → ℕ → Act → Type 0
InPlace sequence place a = IsAct (slice_get sequence place) a
