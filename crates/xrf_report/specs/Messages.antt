-- The text of a message.
use Rattle.std.specs.Prelude.{ℕ, Bool, List, ◌++◌, codes, Option, Some, None}
use Rattle.std.specs.Fmt.{decimal}
use Rattle.xrf_cebt.specs.Command.{switch_word}
use Rattle.xrf_msg.specs.declared.messages.Message.{Message}
use Rattle.xrf_msg.specs.declared.messages.Message.TheVariants.{Begin, Term, End, User}
use Rattle.xrf_report.specs.Words.{blank}

-- a user, or - where there is none
abbrev pub user_text : Option (List ℕ) → List ℕ
user_text None = codes "-"
user_text (Some user) = user

-- epoch and number
abbrev pub place_text : (epoch seq : ℕ) → List ℕ
place_text epoch seq = decimal epoch ++ blank (decimal seq)

-- and the terminal, its class, and whether it is on
abbrev pub terminal_text : (epoch seq : ℕ) → List ℕ → ℕ → Bool → List ℕ
terminal_text epoch seq term class on = place_text epoch seq ++ blank term ++ blank (decimal class) ++ blank (switch_word on)

-- a message: its kind, its epoch, but for Begin its number, and behind them what it tells of a terminal
abbrev pub message_text : Message → List ℕ
message_text (Begin epoch) = codes "BEGIN " ++ decimal epoch
message_text (Term epoch seq term class on) = codes "TERM " ++ terminal_text epoch seq term class on
message_text (End epoch seq) = codes "END " ++ place_text epoch seq
message_text (User epoch seq term class on user) = codes "USER " ++ terminal_text epoch seq term class on ++ blank (user_text user)
