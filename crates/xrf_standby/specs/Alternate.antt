-- When the job of an alternate stands for a history: an equation for each of its fields, and what it rests on.
use Rattle.std.specs.Prelude.{◌≡◌, false, List, None}
use Rattle.xrf_log.specs.Scan.{cleared}
use Rattle.xrf_history.specs.Events.{Event}
use Rattle.xrf_history.specs.Holding.{is_owner, has_started_takeover}
use Rattle.xrf_history.specs.Terminals.{table}
use Rattle.xrf_history.specs.Reserving.{open_decision, leaves, has_abandoned, is_starting}
use Rattle.xrf_history.specs.Deciding.{mode_of}
use Rattle.xrf_history.specs.Rows.{reading_due, lines_issued}
use Rattle.xrf_history.specs.Next.{inside}
use Rattle.xrf_job.specs.Rooms.{AreFor}
use Rattle.xrf_job.specs.Sharing.{Shares}
use Rattle.xrf_active.specs.Promoting.{WasAlternate}
use Rattle.xrf_standby.specs.declared.alternate.Alternate.{Alternate}

pub record Stands (job : Alternate) (h : List Event) : Type 0 where
  pub shared : Shares job.common job.settings h
  pub rooms : AreFor job.rooms job.settings.limits
  pub terminals : job.rooms.table ≡ table job.settings h
  pub unscanned : job.rooms.scan ≡ cleared job.settings.limits.log
  -- it has been an alternate, and is none any more only from the CTLWRITE by which it was let through
  pub was : WasAlternate h
  pub through : job.is_through ≡ is_owner h
  pub at_boundary : inside job.settings h ≡ None → is_owner h ≡ false
  -- what it goes by, and what it does next
  pub mode : job.mode ≡ mode_of job.settings h
  pub decides : job.open_decision ≡ open_decision h
  pub leaves : job.leaves ≡ leaves h
  pub abandons : job.has_abandoned ≡ has_abandoned h
  pub starts : job.is_starting ≡ is_starting h
  pub started : job.has_started ≡ has_started_takeover h
  pub issues : job.lines ≡ lines_issued h
  pub reads : job.is_reading ≡ reading_due h
