-- Who opened the messages of an epoch.
use Rattle.std.specs.Prelude.{ℕ, ◌&&◌, ◌==◌, if◌then◌else◌, List, [], ◌∷◌, Some, true, ◌≡◌}
use Rattle.xrf_msg.specs.Messages.{epoch_of}
use Rattle.xrf_msg.specs.declared.messages.Message.{Message}
use Rattle.xrf_history.specs.Events.{Event}
use Rattle.xrf_history.specs.Notices.{epoch}
use Rattle.xrf_history.specs.Holding.{is_owner, number}
use Rattle.xrf_trace.specs.declared.entry.Act.{Act}
use Rattle.xrf_trace.specs.declared.entry.Land.{Land}
use Rattle.xrf_trace.specs.Landing.{opens}
use Rattle.xrf_trace.specs.declared.entry.Entry.{Entry}
use Rattle.xrf_trace.specs.declared.entry.Act.TheVariants as act
use Rattle.xrf_message_law.specs.Listing.{is_unbroken, opened}

-- the incarnation that opened the last message of an epoch
abbrev pub opener_after : ℕ → ℕ → Act → Land → ℕ → ℕ
opener_after n inc (act.MsgOpen k m) land before = if opens land && epoch_of m == n then inc else before
opener_after n inc _ land before = before

-- the same of a trace
abbrev pub opener : List Entry → ℕ → ℕ
opener [] n = 0
opener (e ∷ t) n = opener_after n e.inc e.act e.land (opener t n)

-- an owner that has sent messages, and none of its MSGOPENs failed
pub record HasSent (h : List Event) (n : ℕ) : Type 0 where
  pub owner : is_owner h ≡ true
  pub unbroken : is_unbroken h ≡ true
  pub some : opened h ≡ [] → ⊥
  pub epoch_is : epoch h ≡ Some n

-- what it opened is all of the epoch, also once it has reserved for its sign-off
pub record Keeps (messages : List Message) (opener : ℕ) (h : List Event) : Type 0 where
  pub same : opened h ≡ messages
  pub own : opener ≡ number h

-- so it is of an owner that has sent messages
abbrev pub Kept : (ℕ → List Message) → (ℕ → ℕ) → List Event → Type 0
Kept messages opener h = (n : ℕ) → HasSent h n → Keeps (messages n) (opener n) h
