-- What is answered at a line, and of a whole text, and what is said then.
use Rattle.std.specs.Prelude.{◌≡◌, ℕ, List, Result, Ok, Err}
use Rattle.xrf_grammar.specs.declared.reason.Reason.{Reason}
use Rattle.xrf_scenario.specs.Machine.{Fault as BadLine}
use Rattle.xrf_scenario.specs.Reading.{HasBad}
use Rattle.xrf_scenario.specs.SoFar.{SoFar}
use Rattle.xrf_scenario.specs.declared.read_bad.ReadBad.{ReadBad}
use Rattle.xrf_scenario.specs.declared.read_bad.ReadBad.TheVariants as bad
use Rattle.xrf_scenario.specs.declared.stop.Stop.{Stop}
use Rattle.xrf_scenario.specs.declared.stop.Stop.TheVariants.{Fault, NoMemory}

-- A call takes a line as a definition does: what is said then is what the definition makes of what was said before; or it
-- answers the definition's reason for which the line may not come. Then, and where memory ran out, what was said stays.
abbrev pub Takes : {T : Type 0} → Result T Stop → SoFar → SoFar → Result SoFar Reason → Type 0
Takes (Ok done) old new made = made ≡ Ok new
Takes (Err (Fault reason)) old new made = (made ≡ Err reason) × (new ≡ old)
Takes (Err NoMemory) old new made = new ≡ old

-- what is answered of a text at whose line reading stops
abbrev pub bad_of : Stop → ℕ → ReadBad
bad_of (Fault reason) number = bad.Bad number reason
bad_of NoMemory number = bad.NoMemory

-- What all lines say, or a fault, is what reading the text gives, unless memory ran out.
abbrev pub Gives : Result SoFar ReadBad → Result SoFar BadLine → Type 0
Gives (Ok so) read = read ≡ Ok so
Gives (Err (bad.Bad number reason)) read = read ≡ Err (record { line = number; reason = reason })
Gives (Err bad.NoMemory) read = Unit {0}

-- An answer that is no reading names the line that is bad first and its first reason, or memory ran out.
abbrev pub IsBad : List ℕ → ReadBad → Type 0
IsBad text (bad.Bad number reason) = HasBad text number reason
IsBad text bad.NoMemory = Unit {0}
