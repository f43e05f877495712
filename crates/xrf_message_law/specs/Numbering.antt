-- The messages of an epoch by their numbers. Lists have the newest first.
use Rattle.std.specs.Prelude.{◌≡◌, ℕ, List, length, [], ◌∷◌, None, Option, Some, ◌==◌, if◌then◌else◌, nat_lt}
use Rattle.xrf_msg.specs.declared.messages.Message.{Message}
use Rattle.xrf_msg.specs.Messages.{epoch_of, number_of}

-- a message of an epoch and of a number
pub record IsOf (n q : ℕ) (message : Message) : Type 0 where
  pub epoch : epoch_of message ≡ n
  pub number : number_of message ≡ q

-- the messages of an epoch have the numbers 0, 1, 2, ..
abbrev pub AreNumbered : ℕ → List Message → Type 0
AreNumbered n [] = Unit {0}
AreNumbered n (m ∷ older) = IsOf n (length older) m × AreNumbered n older

-- the message of a number, counted from the oldest
abbrev pub nth_old : List Message → ℕ → Option Message
nth_old [] q = None
nth_old (m ∷ older) q = if length older == q then Some m else nth_old older q

-- the oldest messages
abbrev pub oldest : ℕ → List Message → List Message
oldest count [] = []
oldest count (m ∷ older) = if nat_lt (length older) count then m ∷ older else oldest count older
