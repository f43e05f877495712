-- How many acts of its own a served alternate makes at most up to its restart.
use Rattle.std.specs.Prelude.{◌≡◌, ◌≤◌, ℕ, zero, suc, ◌+◌, ◌-◌, ◌*◌, ◌/◌, ◌%◌, ◌||◌, Bool, true, false, is_some, if◌then◌else◌, List, Option, Some, None}
use Rattle.xrf_gated.specs.declared.gated.Slot.{Slot}
use Rattle.xrf_gated.specs.Slots.{bytes_of}
use Rattle.xrf_msg.specs.Numbers.{given}
use Rattle.xrf_cavm.specs.declared.decisions.Decided.{Decided}
use Rattle.xrf_history.specs.declared.settings.Settings.{Settings}
use Rattle.xrf_history.specs.declared.want.Want.{Want}
use Rattle.xrf_history.specs.declared.want.Want.TheVariants as want
use Rattle.xrf_history.specs.Events.{Event}
use Rattle.xrf_history.specs.Holding.{number, starts_active}
use Rattle.xrf_history.specs.Taking.{expected, is_draining}
use Rattle.xrf_history.specs.Reserving.{open_decision, start_in, is_through_decision}
use Rattle.xrf_history.specs.Rows.{has_signalled, lines_issued, reading_due}
use Rattle.xrf_history.specs.Next.{inside}
use Rattle.xrf_progress.proofs.Scanning.{scan_left}

-- how many messages of an epoch stand ready from a number on, up to a count
abbrev pub ready : (ℕ → Slot) → (ring epoch : ℕ) → (count number : ℕ) → ℕ
ready slot ring n zero q = 0
ready slot ring n (suc count) q = if is_some (given (bytes_of (slot (q % ring))) n q) then suc (ready slot ring n count (q + 1)) else 0

-- the messages that a job has still to take
abbrev pub unread : (ℕ → Slot) → Settings → List Event → ℕ
unread slot p h = ready slot p.limits.ring (number h) p.limits.ring (expected h)

-- one where a test is met
abbrev pub one_if : Bool → ℕ
one_if true = 1
one_if false = 0

-- the reads that are left to one that drains: of each message, and the one that gives none
abbrev pub undrained : (ℕ → Slot) → Settings → List Event → ℕ
undrained slot p h = if is_draining h then unread slot p h + 1 else 0

-- a start, or a through, is due
abbrev pub is_due : Option Decided → Bool
is_due o = is_some (start_in o) || is_through_decision o

-- what the acts of a round and of a sequence count down
abbrev pub inner_stage : Want → ℕ
inner_stage (want.Signal2 signal) = 9
inner_stage want.Look1 = 8
inner_stage want.Look2 = 7
inner_stage want.Decide = 6
inner_stage want.CtlRead = 4
inner_stage (want.CtlWrite written) = 3
inner_stage want.Release = 4
inner_stage _ = 0

-- with no SIGNAL1 in this tick a round comes yet
abbrev pub round_left : Bool → ℕ
round_left true = 0
round_left false = 7

-- the same at a boundary
abbrev pub stage : Option Want → (signalled due : Bool) → ℕ
stage (Some w) signalled due = inner_stage w + round_left signalled
stage None signalled due = (if due then 5 else 3) + round_left signalled

-- one that does not wait yet has its start before it
abbrev pub ahead : Bool → ℕ
ahead true = 0
ahead false = 2

-- the acts of a restart but for the reads of messages: the blocks of the log, up to five acts for each slot, and RESTARTED
abbrev pub most_of_restart : Settings → ℕ
most_of_restart p = 5 * p.limits.log + p.limits.log / 64 + 4

-- the acts that are left to an alternate, but for those after further TICKs
abbrev pub alternate_left : (ℕ → Slot) → Settings → Bool → List Event → ℕ
alternate_left slot p waits h =
    unread slot p h + (p.clt_lines - lines_issued h) + one_if (reading_due h) + stage (inside p h) (has_signalled h) (is_due (open_decision h))
    + ahead waits + most_of_restart p

-- what is done of the write of a Backout
abbrev pub inner_done : Option Want → ℕ
inner_done (Some (want.LogClose k)) = 1
inner_done (Some (want.LogBody k rec)) = 2
inner_done (Some (want.LogOpen k rec)) = 3
inner_done _ = 0

-- the acts that are left to an owner that restarts, but for its round
abbrev pub owner_left : (ℕ → Slot) → Settings → List Event → ℕ
owner_left slot p h = undrained slot p h + (scan_left p h - inner_done (inside p h))

-- the round that one that became the owner makes, where it made none in this tick
abbrev pub own_round : Bool → ℕ
own_round true = 0
own_round false = 5

-- the reads that are left to one that became the owner: none to one that was started as active
abbrev pub reads_left : (ℕ → Slot) → Settings → List Event → ℕ
reads_left slot p h = if starts_active h then 0 else unread slot p h + 1

-- and the acts to one whose write as the owner is not released yet
abbrev pub written_left : (ℕ → Slot) → Settings → List Event → ℕ
written_left slot p h = reads_left slot p h + most_of_restart p + 1 + own_round (has_signalled h)

-- by where it stands: before its RELEASE, in its round, or behind it
abbrev pub left_by : Option Want → (signalled : Bool) → (written restarting : ℕ) → ℕ
left_by (Some want.Release) signalled written restarting = written
left_by (Some (want.Signal2 signal)) signalled written restarting = restarting + 4
left_by (Some want.Look1) signalled written restarting = restarting + 3
left_by (Some want.Look2) signalled written restarting = restarting + 2
left_by (Some want.Decide) signalled written restarting = restarting + 1
left_by None false written restarting = restarting + 5
left_by _ signalled written restarting = restarting

-- the acts that are left to one that became the owner
abbrev pub restart_left : (ℕ → Slot) → Settings → List Event → ℕ
restart_left slot p h = left_by (inside p h) (has_signalled h) (written_left slot p h) (owner_left slot p h)

-- what the counts ask of the settings: the ring has slots, and the log whole blocks
pub record AreWhole (p : Settings) : Type 0 where
  pub ring : 1 ≤ p.limits.ring
  pub log : p.limits.log % 64 ≡ 0

-- an act leaves less
abbrev pub Less : Settings → (left after : ℕ) → Type 0
Less p left after = AreWhole p → after + 1 ≤ left

-- what a decision leaves of a round and a sequence
abbrev pub decided_left : Settings → List Event → ℕ
decided_left p h = one_if (reading_due h) + stage (inside p h) (has_signalled h) (is_due (open_decision h))
