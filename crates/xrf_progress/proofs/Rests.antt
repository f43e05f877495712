-- What comes next where an alternate rests, and at a boundary of its course.
use Rattle.std.proofs.Common.{◌≡◌, ◌+◌, Bool, true, false, List, Some, None, refl, ap, ◌∙◌, arith, if◌then◌else◌}
use Rattle.std.proofs.lemmas.Grind.{common_steps}
use Rattle.xrf_ctl.specs.declared.parts.Cause.{Cause}
use Rattle.xrf_cavm.specs.declared.decisions.Decision.TheVariants as decision
use Rattle.xrf_cavm.specs.declared.decisions.Waiting.TheVariants as waiting
use Rattle.xrf_cavm.specs.declared.decisions.Decided.TheVariants.{Alternate, Waiting}
use Rattle.xrf_history.specs.declared.settings.Settings.{Settings}
use Rattle.xrf_history.specs.declared.want.Want.{Want}
use Rattle.xrf_history.specs.declared.want.Want.TheVariants as want
use Rattle.xrf_history.specs.Events.{Event}
use Rattle.xrf_history.specs.Holding.{is_granted, is_owner}
use Rattle.xrf_history.specs.Reserving.{leaves, open_decision, start_in, is_through_decision}
use Rattle.xrf_history.specs.Rows.{boundary, has_signalled, lines_left, lines_issued, reading_due, reading_place, rounds, signal_of}
use Rattle.xrf_history.specs.Next.{inside, next, or_boundary}

-- at rest comes a line of the command list, a read of a message, or nothing
idle-boundary : (p : Settings) (h : List Event) → is_owner h ≡ false → has_signalled h ≡ true → leaves h ≡ None → start_in (open_decision h) ≡ None
    → is_through_decision (open_decision h) ≡ false → (lines reads : Bool) → lines_left p h ≡ lines → reading_due h ≡ reads
    → boundary p h ≡ (if lines then want.Clt (lines_issued h + 1) else (if reads then want.MsgRead (reading_place p h) else want.Nothing))
idle-boundary p h no_owner signalled stays no_start no_through lines reads left due = grind (arith, common_steps)

-- a line that is left comes first
pub lines-boundary : (p : Settings) (h : List Event) → is_owner h ≡ false → lines_left p h ≡ true → boundary p h ≡ want.Clt (lines_issued h + 1)
lines-boundary p h no_owner left = grind (arith, common_steps)

-- a round is next where none was made in this tick
pub signal-boundary : (p : Settings) (h : List Event) → is_granted h ≡ true → is_owner h ≡ false → has_signalled h ≡ false → leaves h ≡ None
    → start_in (open_decision h) ≡ None → is_through_decision (open_decision h) ≡ false → lines_left p h ≡ false
    → boundary p h ≡ want.Signal1 (signal_of h (rounds h + 1))
signal-boundary p h granted no_owner signalled stays no_start no_through no_lines = grind (arith, common_steps)

-- RESERVE is next after DECIDE START
pub start-boundary : (p : Settings) (h : List Event) (why : Cause) → is_owner h ≡ false → leaves h ≡ None → lines_left p h ≡ false
    → open_decision h ≡ Some (Alternate (decision.Start why)) → boundary p h ≡ want.Reserve
start-boundary p h why no_owner stays no_lines opened = grind (arith, common_steps)

-- and after DECIDE THROUGH
pub through-boundary : (p : Settings) (h : List Event) → is_owner h ≡ false → leaves h ≡ None → lines_left p h ≡ false
    → open_decision h ≡ Some (Waiting waiting.Through) → boundary p h ≡ want.Reserve
through-boundary p h no_owner stays no_lines opened = grind (arith, common_steps)

-- where nothing is inside the next act is that of the boundary
pub next-boundary : (p : Settings) (h : List Event) (w : Want) → inside p h ≡ None → boundary p h ≡ w → next p h ≡ w
next-boundary p h w at is = ap (or_boundary p h) at ∙ is

-- at rest the next act is one of three
pub data Idles (p : Settings) (h : List Event) : Type 0 where
  Line : next p h ≡ want.Clt (lines_issued h + 1) → lines_left p h ≡ true → Idles p h
  Read : next p h ≡ want.MsgRead (reading_place p h) → lines_left p h ≡ false → reading_due h ≡ true → Idles p h
  Still : next p h ≡ want.Nothing → lines_left p h ≡ false → Idles p h

-- **where it rests it is one of these**
pub idles : (p : Settings) (h : List Event) → inside p h ≡ None → is_owner h ≡ false → has_signalled h ≡ true → leaves h ≡ None
    → start_in (open_decision h) ≡ None → is_through_decision (open_decision h) ≡ false → Idles p h
idles p h at no_owner signalled stays no_start no_through = by (lines_left p h) (reading_due h) refl refl
  where
    by : (lines reads : Bool) → lines_left p h ≡ lines → reading_due h ≡ reads → Idles p h
    by true reads left due = Line (next-boundary p h (want.Clt (lines_issued h + 1)) at (idle-boundary p h no_owner signalled stays no_start no_through true reads left due)) left
    by false true left due = Read (next-boundary p h (want.MsgRead (reading_place p h)) at (idle-boundary p h no_owner signalled stays no_start no_through false true left due)) left due
    by false false left due = Still (next-boundary p h want.Nothing at (idle-boundary p h no_owner signalled stays no_start no_through false false left due)) left
