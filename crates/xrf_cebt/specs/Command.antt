-- The CEBT commands: their words, and the first word that is wrong in a text.
use Rattle.std.specs.Prelude.{◌≡◌, ◌≢◌, ℕ, ◌+◌, ◌≤◌, ◌<◌, Bool, true, false, List, [], ◌∷◌, ◌++◌, length, take, codes}
use Rattle.std.specs.List.{join_with_byte}
use Rattle.xrf_base.specs.declared.site.Takeovr.{Takeovr}
use Rattle.xrf_base.specs.declared.site.Takeovr.TheVariants.{Auto, Manual, Command}
use Rattle.xrf_cebt.specs.declared.commands.Cebt.{Cebt}
use Rattle.xrf_cebt.specs.declared.commands.Cebt.TheVariants.{PerformTakeover, PerformShutdown, InquireTakeover, InquireSurveillance, SetTakeover, SetSurveillance}

abbrev pub mode_word : Takeovr → List ℕ
mode_word Auto = codes "AUTO"
mode_word Manual = codes "MANUAL"
mode_word Command = codes "COMMAND"

abbrev pub switch_word : Bool → List ℕ
switch_word true = codes "ON"
switch_word false = codes "OFF"

-- the words of each command
abbrev pub command_words : Cebt → List (List ℕ)
command_words PerformTakeover = codes "PERFORM" ∷ codes "TAKEOVER" ∷ []
command_words PerformShutdown = codes "PERFORM" ∷ codes "SHUTDOWN" ∷ []
command_words InquireTakeover = codes "INQUIRE" ∷ codes "TAKEOVER" ∷ []
command_words InquireSurveillance = codes "INQUIRE" ∷ codes "SURVEILLANCE" ∷ []
command_words (SetTakeover mode) = codes "SET" ∷ codes "TAKEOVER" ∷ mode_word mode ∷ []
command_words (SetSurveillance on) = codes "SET" ∷ codes "SURVEILLANCE" ∷ switch_word on ∷ []

-- the text of each command, with one blank between words
abbrev pub command_text : Cebt → List ℕ
command_text command = join_with_byte 32 (command_words command)

-- some command begins with these words
abbrev pub BeginsCommand : List (List ℕ) → Type 0
BeginsCommand ws = (command : Cebt) × ((rest : List (List ℕ)) × (command_words command ≡ ws ++ rest))

-- The place, from 0, of the first word such that no command begins with the words up to and with
-- it. Where a command begins with all the words and has more, it is the place after the last word.
pub record IsFault (ws : List (List ℕ)) (place : ℕ) : Type 0 where
  pub within : place ≤ length ws
  pub before : BeginsCommand (take place ws)
  pub wrong : place < length ws → BeginsCommand (take (place + 1) ws) → ⊥
  pub short : place ≡ length ws → (command : Cebt) → command_words command ≢ ws
