-- Jobs act: an entry of a site is by the job that is there, under its number, and a START comes where none is; ticks and
-- confirmations alone are of no site; and the tick of an entry is the count of TICKs.
use Rattle.std.specs.Prelude.{◌≡◌, Bool, true, false, is_some, is_none, List, ◌∷◌, Option}
use Rattle.xrf_base.specs.declared.site.Site.TheVariants as site
use Rattle.xrf_history.specs.Events.{Event}
use Rattle.xrf_trace.specs.declared.entry.Entry.{Entry}
use Rattle.xrf_trace.specs.declared.entry.Act.{Act}
use Rattle.xrf_trace.specs.declared.entry.Act.TheVariants as act
use Rattle.xrf_trace.specs.declared.entry.Who.{Who}
use Rattle.xrf_trace.specs.declared.entry.Who.TheVariants as who
use Rattle.xrf_trace.specs.Scenario.{Scen}
use Rattle.xrf_trace.specs.Words.{now}
use Rattle.xrf_trace.specs.Jobs.{hist}
use Rattle.xrf_trace.specs.Entries.{inc_at}
use Rattle.xrf_trace.specs.Each.{Each}

abbrev pub starts_job : Act → Bool
starts_job act.StartActive = true
starts_job act.StartStandby = true
starts_job _ = false

-- a START finds no job; any other entry finds one, and has its number
abbrev pub IsBy : (starts : Bool) → Option (List Event) → Entry → Type 0
IsBy true job e = (is_none job ≡ true) × (e.inc ≡ 0)
IsBy false job e = (is_some job ≡ true) × (e.inc ≡ inc_at e.act job)

abbrev pub IsByJob : Option (List Event) → Entry → Type 0
IsByJob job e = IsBy (starts_job e.act) job e

abbrev pub is_of_none : Act → Bool
is_of_none act.Tick = true
is_of_none (act.Confirm n) = true
is_of_none _ = false

abbrev pub IsOfSite : Scen → List Entry → Entry → Who → Type 0
IsOfSite s t e who.A = IsByJob (hist s t site.A) e
IsOfSite s t e who.B = IsByJob (hist s t site.B) e
IsOfSite s t e who.Env = is_of_none e.act ≡ true

pub record JobsAct (s : Scen) (t : List Entry) : Type 0 where
  pub jobs : Each (λ t e. IsOfSite s t e e.who) t
  pub clock : Each (λ t e. e.tick ≡ now (e ∷ t)) t
