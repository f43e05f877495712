-- What an overseer sees of a pair, and which starts it may be advised to make.
use Rattle.std.specs.Prelude.{Bool, true, false, not, ◌&&◌, nat_lt, if◌then◌else◌, Option, Some, None}
use Rattle.xrf_base.specs.declared.site.Site.{Site}
use Rattle.xrf_base.specs.declared.site.Site.TheVariants as site
use Rattle.xrf_ctl.specs.declared.parts.Level.{Level}
use Rattle.xrf_ctl.specs.declared.parts.Owner.{Owner}
use Rattle.xrf_ctl.specs.declared.parts.OwnerState.TheVariants.{Running, OffAbend}
use Rattle.xrf_cavm.specs.Grants.{grant_active, grant_standby}
use Rattle.xrf_cavm.specs.Record.{owner_is, alt_may_run}
use Rattle.xrf_cavm.specs.declared.grants.Grant.{Grant}
use Rattle.xrf_cavm.specs.declared.grants.Grant.TheVariants.{Granted}
use Rattle.xrf_trace.specs.Scenario.{other}
use Rattle.xrf_overseer.specs.declared.view.Advice.{Advice}
use Rattle.xrf_overseer.specs.declared.view.Advice.TheVariants.{Leave, StartActive, StartStandby}
use Rattle.xrf_overseer.specs.declared.view.PairView.{PairView}

-- whether a job is at a site, and the level of a site
abbrev pub has_job : PairView → Site → Bool
has_job v site.A = v.job_a
has_job v site.B = v.job_b

abbrev pub level_seen : PairView → Site → Level
level_seen v site.A = v.level_a
level_seen v site.B = v.level_b

-- a number is left for one more incarnation
abbrev pub has_number : PairView → Bool
has_number v = nat_lt v.control.last 4294967295

-- whether a job that asks is granted
abbrev pub grants : Grant → Bool
grants (Granted written) = true
grants _ = false

-- what a job of a site would be answered now, as active and to stand by
abbrev pub active_grant : PairView → Site → Grant
active_grant v x = grant_active v.control x v.known (level_seen v x)

abbrev pub standby_grant : PairView → Site → Grant
standby_grant v x = grant_standby v.control x v.known (level_seen v x)

-- An advice may be followed: to leave the pair, always; a start where no job is at the site, a number is left, and the job
-- would be granted.
abbrev pub advised : PairView → Advice → Bool
advised v Leave = true
advised v (StartActive x) = not (has_job v x) && has_number v && grants (active_grant v x)
advised v (StartStandby x) = not (has_job v x) && has_number v && grants (standby_grant v x)

-- an advice where it may be followed, and else to leave the pair
abbrev pub if_advised : PairView → Advice → Advice
if_advised v a = if advised v a then a else Leave

-- where the owner signed off by an ABEND, or is Running and confirmed
abbrev pub is_down : PairView → Bool
is_down v = if owner_is v.control OffAbend then true else owner_is v.control Running && v.known.owner

-- In place: an owner that is down is started again at its site. Beside a Running owner, where the record has no
-- alternate or a confirmed one, a standby is started at the other site.
abbrev pub at_owner : PairView → Option Owner → Advice
at_owner v None = Leave
at_owner v (Some o) =
    if is_down v then if_advised v (StartActive o.site) else
    (if owner_is v.control Running && not (alt_may_run v.control v.known) then if_advised v (StartStandby (other o.site)) else Leave)

abbrev pub in_place : PairView → Advice
in_place v = at_owner v v.control.owner
