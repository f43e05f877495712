-- The choices that a journal determines: each entry tells the choice that added it.
use Rattle.std.specs.Prelude.{List, map, reverse}
use Rattle.xrf_base.specs.declared.site.Site.{Site}
use Rattle.xrf_base.specs.declared.site.Site.TheVariants as site
use Rattle.xrf_setup.specs.declared.choice.Choice.{Choice}
use Rattle.xrf_setup.specs.declared.choice.Choice.TheVariants as choice
use Rattle.xrf_trace.specs.declared.entry.Entry.{Entry}
use Rattle.xrf_trace.specs.declared.entry.Act.{Act}
use Rattle.xrf_trace.specs.declared.entry.Act.TheVariants as act
use Rattle.xrf_trace.specs.declared.entry.Land.{Land}
use Rattle.xrf_trace.specs.declared.entry.Land.TheVariants as land
use Rattle.xrf_trace.specs.declared.entry.Who.{Who}
use Rattle.xrf_trace.specs.declared.entry.Who.TheVariants as who

-- an act that is no choice is that of a STEP
abbrev pub choice_of_act : Site → Act → Choice
choice_of_act x act.StartActive = choice.StartActive x
choice_of_act x act.StartStandby = choice.StartStandby x
choice_of_act x act.Abend = choice.Abend x
choice_of_act x (act.Reply go) = choice.Reply x go
choice_of_act x (act.Cebt command reply) = choice.Cebt x command
choice_of_act x (act.Exit said) = choice.Exit x said
choice_of_act x _ = choice.Step x

abbrev pub choice_at : Site → Act → Land → Choice
choice_at x a land.Full = choice_of_act x a
choice_at x a land.Lost = choice.Lose x
choice_at x a (land.Stop cut) = choice.Stop x cut
choice_at x a (land.Fail cut) = choice.Fail x cut

-- of no site are a tick and a confirmation
abbrev pub choice_of_none : Act → Choice
choice_of_none (act.Confirm n) = choice.Confirm n
choice_of_none _ = choice.Tick

abbrev pub choice_by : Who → Act → Land → Choice
choice_by who.A a l = choice_at site.A a l
choice_by who.B a l = choice_at site.B a l
choice_by who.Env a l = choice_of_none a

abbrev pub choice_of : Entry → Choice
choice_of e = choice_by e.who e.act e.land

-- the choices of a trace, in the order in which they were made
abbrev pub choices_of : List Entry → List Choice
choices_of t = map choice_of (reverse t)
