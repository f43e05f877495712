-- What an owner knows of epochs: which alternates it may not have sent anything.
use Rattle.std.specs.Prelude.{List, Option, Some, true, ◌≡◌, ℕ, ◌≤◌, [], false, ◌<◌}
use Rattle.xrf_ctl.specs.Control.{ControlRecord}
use Rattle.xrf_cavm.specs.Record.{is_alt}
use Rattle.xrf_msg.specs.declared.messages.Message.{Message}
use Rattle.xrf_history.specs.Events.{Event}
use Rattle.xrf_history.specs.declared.want.Want.{Want}
use Rattle.xrf_history.specs.Notices.{epoch}
use Rattle.xrf_history.specs.Looking.{record_seen}
use Rattle.xrf_history.specs.declared.settings.Settings.{Settings}
use Rattle.xrf_history.specs.Next.{next}
use Rattle.xrf_history.proofs.SigningOff.{Stays}
use Rattle.xrf_history.specs.declared.want.Want.TheVariants as want
use Rattle.xrf_trace.specs.Tracking.{messages}

-- its epoch is a number that was given, and an alternate of the record that is not its epoch was sent nothing
pub record Knows (r : ControlRecord) (messages : ℕ → List Message) (of : Option ℕ) : Type 0 where
  pub given : (n : ℕ) → of ≡ Some n → n ≤ r.last
  pub unsent : (n : ℕ) → is_alt r n ≡ true → (of ≡ Some n → ⊥) → messages n ≡ []

-- the record that it saw, where a LOOK2 or the DECIDE comes next
pub record Saw (r : ControlRecord) (messages : ℕ → List Message) (of : Option ℕ) (seen : ControlRecord) : Type 0 where
  pub few : (n : ℕ) → is_alt seen n ≡ true → n ≤ seen.last
  pub older : seen.last ≤ r.last
  pub later : (n : ℕ) → is_alt r n ≡ true → is_alt seen n ≡ false → seen.last < n
  pub unsent : (n : ℕ) → is_alt seen n ≡ true → (of ≡ Some n → ⊥) → messages n ≡ []
  pub given : (n : ℕ) → of ≡ Some n → n ≤ seen.last

-- so it is where a LOOK2 or the DECIDE comes next
abbrev pub SawAt : ControlRecord → (ℕ → List Message) → List Event → Want → Type 0
SawAt r messages h want.Look2 = Saw r messages (epoch h) (record_seen h)
SawAt r messages h want.Decide = Saw r messages (epoch h) (record_seen h)
SawAt r messages h _ = Unit {0}

-- what an owner knows, and what it saw
pub record KnowsOf (r : ControlRecord) (messages : ℕ → List Message) (p : Settings) (h : List Event) : Type 0 where
  pub knows : Knows r messages (epoch h)
  pub saw : SawAt r messages h (next p h)

-- so it is until it has reserved for its sign-off
abbrev pub IsKnown : ControlRecord → (ℕ → List Message) → Settings → List Event → Type 0
IsKnown r messages p h = Stays h → KnowsOf r messages p h

-- a number that is not given was sent nothing
abbrev pub Unsent : ControlRecord → (ℕ → List Message) → Type 0
Unsent r messages = (n : ℕ) → r.last < n → messages n ≡ []
