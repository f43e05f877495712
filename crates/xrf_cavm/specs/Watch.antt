-- Loss of signal: when the other site's signals changed last.
use Rattle.std.specs.Prelude.{◌≡◌, ℕ, ◌-◌, ◌==◌, ◌&&◌, max, nat_le, Bool, true, false, not, List, [], ◌∷◌, Option, Some, None, if◌then◌else◌}
use Rattle.xrf_ctl.specs.Signal.{SignalRecord}

-- a look: the signals of the other site's two sectors
abbrev pub Look : Type 0
Look = Option SignalRecord × Option SignalRecord

-- what a watch holds: the last look, and the tick of the last change
pub record WatchState : Type 0 where
  pub look : Option Look
  pub change : ℕ

abbrev pub same_signal : Option SignalRecord → Option SignalRecord → Bool
same_signal None None = true
same_signal (Some a) (Some b) = a.inc == b.inc && a.counter == b.counter && a.cursor == b.cursor
same_signal _ _ = false

-- a look is news where it is the first, or differs from the one before
abbrev pub is_news : Look → Option Look → Bool
is_news look None = true
is_news look (Some before) = not (same_signal look.0 before.0 && same_signal look.1 before.1)

-- what a watch was told, the newest first
pub data Told : Type 0 where
  Looked : (look : Look) → (at : ℕ) → Told
  Reset : (at : ℕ) → Told

abbrev pub last_look : List Told → Option Look
last_look [] = None
last_look (Looked look at ∷ told) = Some look
last_look (Reset at ∷ told) = last_look told

-- the ticks of the first look, of each look that differs from the one before, and of each reset
abbrev pub changes : List Told → List ℕ
changes [] = []
changes (Looked look at ∷ told) = if is_news look (last_look told) then at ∷ changes told else changes told
changes (Reset at ∷ told) = at ∷ changes told

-- the latest of some ticks, of which the first is that at which the watch began
abbrev pub latest : ℕ → List ℕ → ℕ
latest start [] = start
latest start (t ∷ ts) = max t (latest start ts)

-- the watch that began at a tick has been told this
pub record Watches (w : WatchState) (start : ℕ) (told : List Told) : Type 0 where
  pub look : w.look ≡ last_look told
  pub change : w.change ≡ latest start (changes told)

-- an interval or more has passed since the tick of the last change
abbrev pub is_lost : ℕ → ℕ → ℕ → Bool
is_lost change interval now = nat_le interval (now - change)
