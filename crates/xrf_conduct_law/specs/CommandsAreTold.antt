-- Commands are told: what the operator and the status exit say reaches a job only where it takes it, and a CEBT is replied to
-- by what its job goes by after it.
use Rattle.std.specs.Prelude.{◌≡◌, true, List}
use Rattle.xrf_base.specs.declared.site.Site.{Site}
use Rattle.xrf_history.specs.Events.{Event}
use Rattle.xrf_history.specs.Notices.{notice}
use Rattle.xrf_history.specs.Accepting.{may_abend, may_reply, may_command, exit_allowed}
use Rattle.xrf_trace.specs.declared.entry.Entry.{Entry}
use Rattle.xrf_trace.specs.declared.entry.Act.{Act}
use Rattle.xrf_trace.specs.declared.entry.Act.TheVariants as act
use Rattle.xrf_trace.specs.Scenario.{Scen, settings}
use Rattle.xrf_trace.specs.Entries.{reply_of}
use Rattle.xrf_trace.specs.Each.{Each, AtSite}

-- what reaches a job, and what a CEBT is replied
abbrev pub IsTold : Scen → Site → List Event → Act → Type 0
IsTold s x h act.Abend = may_abend h ≡ true
IsTold s x h (act.Reply go) = may_reply (settings s x) h ≡ true
IsTold s x h (act.Cebt command reply) = (may_command h ≡ true) × (reply ≡ reply_of s x command h)
IsTold s x h (act.Exit said) = exit_allowed (notice h) said ≡ true
IsTold s x h _ = Unit {0}

abbrev pub CommandsAreTold : Scen → List Entry → Type 0
CommandsAreTold s t = Each (λ t e. AtSite s t e.who (λ x h. IsTold s x h e.act)) t
