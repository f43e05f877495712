-- How a seat stands for the job at its site, and what its job wants.
use Rattle.std.specs.Prelude.{◌≡◌, ◌<◌, Bool, true, false, List, ◌∷◌, length, Option, Some, None, IfSome}
use Rattle.std.specs.Option.{option_map}
use Rattle.xrf_ctl.specs.Control.{ControlRecord}
use Rattle.xrf_history.specs.declared.answer.Answer.{Answer}
use Rattle.xrf_history.specs.declared.answer.Answer.TheVariants as answer
use Rattle.xrf_history.specs.declared.settings.Settings.{Settings}
use Rattle.xrf_history.specs.declared.want.Want.{Want}
use Rattle.xrf_history.specs.declared.want.Want.TheVariants as want
use Rattle.xrf_history.specs.Events.{Event, Ticked}
use Rattle.xrf_history.specs.Holding.{is_owner}
use Rattle.xrf_history.specs.Looking.{record_seen}
use Rattle.xrf_history.specs.Next.{next}
use Rattle.xrf_history.specs.Restarting.{has_read_block}
use Rattle.xrf_job.specs.Rooms.{AreFor}
use Rattle.xrf_active.specs.Standing as active
use Rattle.xrf_standby.specs.Standing as standby
use Rattle.xrf_world.specs.declared.job.Job.{Job}
use Rattle.xrf_world.specs.declared.job.Job.TheVariants as jobs
use Rattle.xrf_world.specs.declared.seat.Seat.{Seat}

-- The job in a seat stands for the history of its site, and where none is there its rooms wait for one. One that was let
-- through is there as an active.
abbrev pub JobIs : Job → Settings → Option (List Event) → Type 0
JobIs (jobs.Absent rooms) p None = AreFor rooms p.limits
JobIs (jobs.Active job) p (Some h) = (job.settings ≡ p) × active.Stands job h
JobIs (jobs.Standby job) p (Some h) = (job.settings ≡ p) × standby.Stands job h × (is_owner h ≡ false)
JobIs _ p job = ⊥

-- the same of a job that has just been handed an answer, by which it may have been let through
abbrev pub WasHanded : Job → Settings → List Event → Type 0
WasHanded (jobs.Absent rooms) p h = ⊥
WasHanded (jobs.Active job) p h = (job.settings ≡ p) × active.Stands job h
WasHanded (jobs.Standby job) p h = (job.settings ≡ p) × standby.Stands job h
WasHanded jobs.Moving p h = ⊥

-- a seat keeps beside its job the record that it saw last, and whether it has read a block of the log
pub record SeatIs (seat : Seat) (p : Settings) (there : Option (List Event)) : Type 0 where
  pub settings : seat.settings ≡ p
  pub job : JobIs seat.job p there
  pub seen : IfSome there (λ h. seat.seen ≡ record_seen h)
  pub has_read : IfSome there (λ h. seat.has_read ≡ has_read_block h)

-- a job has few events
abbrev pub FewEvents : Option (List Event) → Type 0
FewEvents job = IfSome job (λ h. length h < 16385)

-- what its job wants, and nothing where none is there
abbrev pub want_of : Settings → Option (List Event) → Want
want_of p None = want.Nothing
want_of p (Some h) = next p h

-- a tick reaches the job that is there
abbrev pub ticked : Option (List Event) → Option (List Event)
ticked job = option_map (λ h. Ticked ∷ h) job

-- the record that a job saw last, and whether it has read a block, after an answer
abbrev pub seen_after : Answer → ControlRecord → ControlRecord
seen_after (answer.Look1 held signal) before = held
seen_after _ before = before

abbrev pub read_after : Answer → Bool → Bool
read_after (answer.Anchored block keys) before = true
read_after _ before = before

-- a job goes on after an act, but for ENDED
abbrev pub after_want : Want → List Event → Option (List Event)
after_want (want.Ended reason) h = None
after_want _ h = Some h
