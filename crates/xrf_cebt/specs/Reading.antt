-- How a command is read, word by word. What it comes to is said in Command.antt alone.
use Rattle.std.specs.Prelude.{ℕ, cond, List, [], ◌∷◌, Result, Ok, Err, codes, true, false}
use Rattle.std.specs.Str.{bytes_eq}
use Rattle.xrf_base.specs.declared.site.Takeovr.TheVariants.{Auto, Manual, Command}
use Rattle.xrf_cebt.specs.declared.commands.Cebt.{Cebt}
use Rattle.xrf_cebt.specs.declared.commands.Cebt.TheVariants.{PerformTakeover, PerformShutdown, InquireTakeover, InquireSurveillance, SetTakeover, SetSurveillance}
use Rattle.xrf_cebt.specs.declared.commands.CebtFault.{CebtFault}

abbrev pub fault : ℕ → Result Cebt CebtFault
fault place = Err (record { word = place })

-- no word is left where a command is complete
abbrev pub end_read : Cebt → ℕ → List (List ℕ) → Result Cebt CebtFault
end_read command place [] = Ok command
end_read command place (word ∷ more) = fault place

-- the words behind PERFORM
abbrev pub perform_read : List (List ℕ) → Result Cebt CebtFault
perform_read [] = fault 1
perform_read (word ∷ more) =
    cond (bytes_eq word (codes "TAKEOVER")) (end_read PerformTakeover 2 more)
    (cond (bytes_eq word (codes "SHUTDOWN")) (end_read PerformShutdown 2 more) (fault 1))

-- the words behind INQUIRE
abbrev pub inquire_read : List (List ℕ) → Result Cebt CebtFault
inquire_read [] = fault 1
inquire_read (word ∷ more) =
    cond (bytes_eq word (codes "TAKEOVER")) (end_read InquireTakeover 2 more)
    (cond (bytes_eq word (codes "SURVEILLANCE")) (end_read InquireSurveillance 2 more) (fault 1))

-- the words behind SET TAKEOVER
abbrev pub mode_read : List (List ℕ) → Result Cebt CebtFault
mode_read [] = fault 2
mode_read (word ∷ more) =
    cond (bytes_eq word (codes "AUTO")) (end_read (SetTakeover Auto) 3 more)
    (cond (bytes_eq word (codes "MANUAL")) (end_read (SetTakeover Manual) 3 more)
    (cond (bytes_eq word (codes "COMMAND")) (end_read (SetTakeover Command) 3 more) (fault 2)))

-- the words behind SET SURVEILLANCE
abbrev pub switch_read : List (List ℕ) → Result Cebt CebtFault
switch_read [] = fault 2
switch_read (word ∷ more) =
    cond (bytes_eq word (codes "ON")) (end_read (SetSurveillance true) 3 more)
    (cond (bytes_eq word (codes "OFF")) (end_read (SetSurveillance false) 3 more) (fault 2))

-- the words behind SET
abbrev pub set_read : List (List ℕ) → Result Cebt CebtFault
set_read [] = fault 1
set_read (word ∷ more) =
    cond (bytes_eq word (codes "TAKEOVER")) (mode_read more)
    (cond (bytes_eq word (codes "SURVEILLANCE")) (switch_read more) (fault 1))

abbrev pub command_read : List (List ℕ) → Result Cebt CebtFault
command_read [] = fault 0
command_read (word ∷ more) =
    cond (bytes_eq word (codes "PERFORM")) (perform_read more)
    (cond (bytes_eq word (codes "INQUIRE")) (inquire_read more)
    (cond (bytes_eq word (codes "SET")) (set_read more) (fault 0)))
