-- Format by level: a job of level 1 meets format 1 alone, and the format is 2 exactly where a job of level 2
-- became owner.
use Rattle.std.specs.Prelude.{◌≡◌, Bool, true, false, ◌&&◌, ◌||◌, if◌then◌else◌, List, [], ◌∷◌}
use Rattle.xrf_base.specs.declared.site.Site.TheVariants as site
use Rattle.xrf_ctl.specs.declared.parts.Level.{Level}
use Rattle.xrf_ctl.specs.declared.parts.Level.TheVariants.{One, Two}
use Rattle.xrf_history.specs.Events.{Event}
use Rattle.xrf_history.specs.Holding.{is_granted}
use Rattle.xrf_trace.specs.declared.entry.Entry.{Entry}
use Rattle.xrf_trace.specs.declared.entry.Act.{Act}
use Rattle.xrf_trace.specs.declared.entry.Act.TheVariants as act
use Rattle.xrf_trace.specs.declared.entry.Who.{Who}
use Rattle.xrf_trace.specs.declared.entry.Who.TheVariants as who
use Rattle.xrf_trace.specs.Scenario.{Scen, settings}
use Rattle.xrf_trace.specs.Devices.{control}
use Rattle.xrf_trace.specs.Throughs.{is_through}
use Rattle.xrf_trace.specs.Each.{Each, Where, AtSite}

abbrev pub is_one : Level → Bool
is_one One = true
is_one Two = false

-- what a job of level 1 writes, and what it reads after its granting CTLWRITE, has format 1
abbrev pub HasFormatOne : List Entry → List Event → Act → Type 0
HasFormatOne t h (act.CtlWrite written) = written.format ≡ 1
HasFormatOne t h act.CtlRead = Where (is_granted h) ((control t).format ≡ 1)
HasFormatOne t h act.Look1 = Where (is_granted h) ((control t).format ≡ 1)
HasFormatOne t h _ = Unit {0}

abbrev pub MeetsFormat : Scen → List Entry → Entry → Type 0
MeetsFormat s t e = AtSite s t e.who (λ x h. Where (is_one (settings s x).level) (HasFormatOne t h e.act))

-- the level of the site of an entry; of one that is of none it is never asked
abbrev pub level_of : Scen → Who → Level
level_of s who.A = (settings s site.A).level
level_of s who.B = (settings s site.B).level
level_of s who.Env = One

abbrev pub is_two : Level → Bool
is_two One = false
is_two Two = true

-- a through of a job of level 2 stands in the trace
abbrev pub has_two : Scen → List Entry → Bool
has_two s [] = false
has_two s (e ∷ t) = has_two s t || (is_through t e && is_two (level_of s e.who))

abbrev pub FormatIs : Scen → List Entry → Entry → Type 0
FormatIs s t e = (control (e ∷ t)).format ≡ (if has_two s (e ∷ t) then 2 else 1)

pub record FormatByLevel (s : Scen) (t : List Entry) : Type 0 where
  pub meets : Each (MeetsFormat s) t
  pub format : Each (FormatIs s) t
