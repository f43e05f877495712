-- Stops when due: once a sign-off, a drop or a notice is due of an owner, or a leave, a start or a through of an alternate, it
-- begins no round and no other work.
use Rattle.std.specs.Prelude.{◌≡◌, Bool, true, false, ◌&&◌, ◌||◌, is_some, List}
use Rattle.xrf_history.specs.Events.{Event}
use Rattle.xrf_history.specs.Holding.{is_owner, is_alternate}
use Rattle.xrf_history.specs.Reserving.{sign_off_due, drop_due, is_leaving, start_due, through_due}
use Rattle.xrf_history.specs.Notices.{notice}
use Rattle.xrf_trace.specs.declared.entry.Entry.{Entry}
use Rattle.xrf_trace.specs.declared.entry.Act.{Act}
use Rattle.xrf_trace.specs.declared.entry.Act.TheVariants as act
use Rattle.xrf_trace.specs.Scenario.{Scen}
use Rattle.xrf_trace.specs.RoundsAreWhole.{begins_work}
use Rattle.xrf_trace.specs.Each.{Each, Where, AtSite}

-- a round, or other work
abbrev pub begins : Act → Bool
begins (act.Signal1 signal) = true
begins a = begins_work a

abbrev pub is_due : List Event → Bool
is_due h =
    (is_owner h && (is_some (sign_off_due h) || drop_due h || is_some (notice h)))
    || (is_alternate h && (is_leaving h || is_some (start_due h) || through_due h))

abbrev pub StopsWhenDue : Scen → List Entry → Type 0
StopsWhenDue s t = Each (λ t e. AtSite s t e.who (λ x h. Where (is_due h) (begins e.act ≡ false))) t
