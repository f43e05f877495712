-- By purpose: a job that holds a number reserves for a sign-off, a drop, a leave, a start or a through that is due; it writes
-- what its purpose gives of the record that it read, and nothing where it gives none; and it ends as its purpose says, or as
-- dropped where it decided to leave so.
use Rattle.std.specs.Prelude.{◌≡◌, ◌==◌, Bool, true, false, ◌||◌, is_some, List, Some, None}
use Rattle.xrf_history.specs.declared.settings.Settings.{Settings}
use Rattle.xrf_history.specs.declared.want.EndWhy.TheVariants as end
use Rattle.xrf_history.specs.Events.{Event}
use Rattle.xrf_history.specs.Holding.{is_granted, is_owner}
use Rattle.xrf_history.specs.Progress.{made_since_read}
use Rattle.xrf_history.specs.Reserving.{sign_off_due, drop_due, leaves, start_due, through_due}
use Rattle.xrf_history.specs.Next.{record_for, end_for}
use Rattle.xrf_trace.specs.declared.entry.Entry.{Entry}
use Rattle.xrf_trace.specs.declared.entry.Act.{Act}
use Rattle.xrf_trace.specs.declared.entry.Act.TheVariants as act
use Rattle.xrf_trace.specs.Scenario.{Scen, settings}
use Rattle.xrf_trace.specs.Each.{Each, Where, AtSite}

-- something is due for which it reserves
abbrev pub has_cause : List Event → Bool
has_cause h =
    elim (is_owner h) [
      | true ↦ is_some (sign_off_due h) || drop_due h
      | false ↦ is_some (leaves h) || is_some (start_due h) || through_due h
    ]

abbrev pub IsByPurpose : Settings → List Event → Act → Type 0
IsByPurpose p h act.Reserve = Where (is_granted h) (has_cause h ≡ true)
IsByPurpose p h (act.CtlWrite written) = record_for p h ≡ Some written
IsByPurpose p h act.Release = Where (made_since_read h == 0) (record_for p h ≡ None)
IsByPurpose p h (act.Ended end.Dropped) = leaves h ≡ Some end.Dropped
IsByPurpose p h (act.Ended reason) = end_for p h ≡ Some reason
IsByPurpose p h _ = Unit {0}

abbrev pub ByPurpose : Scen → List Entry → Type 0
ByPurpose s t = Each (λ t e. AtSite s t e.who (λ x h. IsByPurpose (settings s x) h e.act)) t
