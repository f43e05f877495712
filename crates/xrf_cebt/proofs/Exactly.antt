-- What is read word by word is exactly the commands, with the first wrong word.
use Rattle.std.proofs.Common.{◌≡◌, ◌≢◌, ℕ, Bool, true, false, cond, List, [], ◌∷◌, ◌++◌, length, Result, Ok, Err, IfOk, IfErr, codes, refl, sym, ap, ◌∙◌, subst, arith}
use Rattle.std.proofs.lemmas.Slice.Eq.{bytes_eq-Decides}
use Rattle.std.proofs.lemmas.List.{length-append, append-nil}
use Rattle.std.proofs.Math.Seq.{take-length, take-append_seam, take-append-add}
use Rattle.std.specs.Str.{bytes_eq}
use Rattle.xrf_base.specs.declared.site.Takeovr.TheVariants.{Auto, Manual, Command}
use Rattle.xrf_cebt.specs.declared.commands.Cebt.{Cebt}
use Rattle.xrf_cebt.specs.declared.commands.Cebt.TheVariants.{PerformTakeover, PerformShutdown, InquireTakeover, InquireSurveillance, SetTakeover, SetSurveillance}
use Rattle.xrf_cebt.specs.declared.commands.CebtFault.{CebtFault}
use Rattle.xrf_cebt.specs.Command.{command_words, BeginsCommand, IsFault}
use Rattle.xrf_cebt.specs.Reading.{command_read, end_read, inquire_read, mode_read, perform_read, set_read, switch_read}

-- what an answer to these words is to say
abbrev pub IsRead : List (List ℕ) → Result Cebt CebtFault → Type 0
IsRead ws (Ok command) = ws ≡ command_words command
IsRead ws (Err f) = IsFault ws f.word

same : (word key : List ℕ) → bytes_eq word key ≡ true → word ≡ key
same word key e = (bytes_eq-Decides word key).0 e

differs : (word key : List ℕ) → bytes_eq word key ≡ false → word ≢ key
differs word key e s = let t = (bytes_eq-Decides word key).1 s in cc

-- A word that ends a text too early: the words begin a command, and no command is these words.
short : (ws : List (List ℕ)) (place : ℕ) → place ≡ length ws → BeginsCommand ws → ((command : Cebt) → command_words command ≢ ws) → IsFault ws place
short ws place whole begins none = record {
  within = omega arith;
  before = rw (whole, take-length) begins;
  wrong = λ inside. absurd (omega arith);
  short = λ _. none;
}

-- A word with which no command goes on.
wrong : (front : List (List ℕ)) (word : List ℕ) (more : List (List ℕ)) → BeginsCommand front → (BeginsCommand (front ++ word ∷ []) → ⊥) → IsFault (front ++ word ∷ more) (length front)
wrong front word more begins none = record {
  within = rw length-append (omega arith);
  before = rw take-append_seam begins;
  wrong = λ inside begun. none (subst BeginsCommand (take-append-add front (word ∷ more) 1) begun);
  short = λ whole. absurd (let e = length-append front (word ∷ more) in omega arith);
}

-- where a command is complete, it is read; a further word is wrong
ended : (command : Cebt) (more : List (List ℕ)) → ((word : List ℕ) → BeginsCommand (command_words command ++ word ∷ []) → ⊥)
    → IsRead (command_words command ++ more) (end_read command (length (command_words command)) more)
ended command [] none = append-nil (command_words command)
ended command (word ∷ more) none = wrong (command_words command) word more (command, ([], sym (append-nil (command_words command)))) (none word)

-- no command is without a word
no_word : (command : Cebt) → command_words command ≢ []
no_word PerformTakeover e = cc
no_word PerformShutdown e = cc
no_word InquireTakeover e = cc
no_word InquireSurveillance e = cc
no_word (SetTakeover mode) e = cc
no_word (SetSurveillance on) e = cc

-- the first and the second of some words
abbrev head : List (List ℕ) → List ℕ
head [] = []
head (word ∷ more) = word

abbrev second : List (List ℕ) → List ℕ
second [] = []
second (word ∷ more) = head more

abbrev third : List (List ℕ) → List ℕ
third [] = []
third (word ∷ more) = second more

-- the first word of a command
first_word : (word : List ℕ) (command : Cebt) (rest : List (List ℕ)) → command_words command ≡ word ∷ rest
    → word ≢ codes "PERFORM" → word ≢ codes "INQUIRE" → word ≢ codes "SET" → ⊥
first_word word PerformTakeover rest e p i s = p (sym (ap head e))
first_word word PerformShutdown rest e p i s = p (sym (ap head e))
first_word word InquireTakeover rest e p i s = i (sym (ap head e))
first_word word InquireSurveillance rest e p i s = i (sym (ap head e))
first_word word (SetTakeover mode) rest e p i s = s (sym (ap head e))
first_word word (SetSurveillance on) rest e p i s = s (sym (ap head e))

-- the word behind PERFORM
after_perform : (word : List ℕ) (command : Cebt) (rest : List (List ℕ)) → command_words command ≡ codes "PERFORM" ∷ word ∷ rest
    → word ≢ codes "TAKEOVER" → word ≢ codes "SHUTDOWN" → ⊥
after_perform word PerformTakeover rest e h0 h1 = h0 (sym (ap second e))
after_perform word PerformShutdown rest e h0 h1 = h1 (sym (ap second e))
after_perform word InquireTakeover rest e h0 h1 = differs (codes "INQUIRE") (codes "PERFORM") refl (ap head e)
after_perform word InquireSurveillance rest e h0 h1 = differs (codes "INQUIRE") (codes "PERFORM") refl (ap head e)
after_perform word (SetTakeover mode) rest e h0 h1 = differs (codes "SET") (codes "PERFORM") refl (ap head e)
after_perform word (SetSurveillance on) rest e h0 h1 = differs (codes "SET") (codes "PERFORM") refl (ap head e)

-- the word behind INQUIRE
after_inquire : (word : List ℕ) (command : Cebt) (rest : List (List ℕ)) → command_words command ≡ codes "INQUIRE" ∷ word ∷ rest
    → word ≢ codes "TAKEOVER" → word ≢ codes "SURVEILLANCE" → ⊥
after_inquire word PerformTakeover rest e h0 h1 = differs (codes "PERFORM") (codes "INQUIRE") refl (ap head e)
after_inquire word PerformShutdown rest e h0 h1 = differs (codes "PERFORM") (codes "INQUIRE") refl (ap head e)
after_inquire word InquireTakeover rest e h0 h1 = h0 (sym (ap second e))
after_inquire word InquireSurveillance rest e h0 h1 = h1 (sym (ap second e))
after_inquire word (SetTakeover mode) rest e h0 h1 = differs (codes "SET") (codes "INQUIRE") refl (ap head e)
after_inquire word (SetSurveillance on) rest e h0 h1 = differs (codes "SET") (codes "INQUIRE") refl (ap head e)

-- the word behind SET
after_set : (word : List ℕ) (command : Cebt) (rest : List (List ℕ)) → command_words command ≡ codes "SET" ∷ word ∷ rest
    → word ≢ codes "TAKEOVER" → word ≢ codes "SURVEILLANCE" → ⊥
after_set word PerformTakeover rest e h0 h1 = differs (codes "PERFORM") (codes "SET") refl (ap head e)
after_set word PerformShutdown rest e h0 h1 = differs (codes "PERFORM") (codes "SET") refl (ap head e)
after_set word InquireTakeover rest e h0 h1 = differs (codes "INQUIRE") (codes "SET") refl (ap head e)
after_set word InquireSurveillance rest e h0 h1 = differs (codes "INQUIRE") (codes "SET") refl (ap head e)
after_set word (SetTakeover mode) rest e h0 h1 = h0 (sym (ap second e))
after_set word (SetSurveillance on) rest e h0 h1 = h1 (sym (ap second e))

-- the word behind SET TAKEOVER
after_set_takeover : (word : List ℕ) (command : Cebt) (rest : List (List ℕ)) → command_words command ≡ codes "SET" ∷ codes "TAKEOVER" ∷ word ∷ rest
    → word ≢ codes "AUTO" → word ≢ codes "MANUAL" → word ≢ codes "COMMAND" → ⊥
after_set_takeover word PerformTakeover rest e h0 h1 h2 = differs (codes "PERFORM") (codes "SET") refl (ap head e)
after_set_takeover word PerformShutdown rest e h0 h1 h2 = differs (codes "PERFORM") (codes "SET") refl (ap head e)
after_set_takeover word InquireTakeover rest e h0 h1 h2 = differs (codes "INQUIRE") (codes "SET") refl (ap head e)
after_set_takeover word InquireSurveillance rest e h0 h1 h2 = differs (codes "INQUIRE") (codes "SET") refl (ap head e)
after_set_takeover word (SetTakeover Auto) rest e h0 h1 h2 = h0 (sym (ap third e))
after_set_takeover word (SetTakeover Manual) rest e h0 h1 h2 = h1 (sym (ap third e))
after_set_takeover word (SetTakeover Command) rest e h0 h1 h2 = h2 (sym (ap third e))
after_set_takeover word (SetSurveillance on) rest e h0 h1 h2 = differs (codes "SURVEILLANCE") (codes "TAKEOVER") refl (ap second e)

-- the word behind SET SURVEILLANCE
after_set_surveillance : (word : List ℕ) (command : Cebt) (rest : List (List ℕ)) → command_words command ≡ codes "SET" ∷ codes "SURVEILLANCE" ∷ word ∷ rest
    → word ≢ codes "ON" → word ≢ codes "OFF" → ⊥
after_set_surveillance word PerformTakeover rest e h0 h1 = differs (codes "PERFORM") (codes "SET") refl (ap head e)
after_set_surveillance word PerformShutdown rest e h0 h1 = differs (codes "PERFORM") (codes "SET") refl (ap head e)
after_set_surveillance word InquireTakeover rest e h0 h1 = differs (codes "INQUIRE") (codes "SET") refl (ap head e)
after_set_surveillance word InquireSurveillance rest e h0 h1 = differs (codes "INQUIRE") (codes "SET") refl (ap head e)
after_set_surveillance word (SetTakeover mode) rest e h0 h1 = differs (codes "TAKEOVER") (codes "SURVEILLANCE") refl (ap second e)
after_set_surveillance word (SetSurveillance true) rest e h0 h1 = h0 (sym (ap third e))
after_set_surveillance word (SetSurveillance false) rest e h0 h1 = h1 (sym (ap third e))

-- no word stands behind the second
perform_ends : (a word : List ℕ) (command : Cebt) (rest : List (List ℕ)) → command_words command ≡ codes "PERFORM" ∷ a ∷ word ∷ rest → ⊥
perform_ends a word PerformTakeover rest e = let n = ap length e in omega arith
perform_ends a word PerformShutdown rest e = let n = ap length e in omega arith
perform_ends a word InquireTakeover rest e = differs (codes "INQUIRE") (codes "PERFORM") refl (ap head e)
perform_ends a word InquireSurveillance rest e = differs (codes "INQUIRE") (codes "PERFORM") refl (ap head e)
perform_ends a word (SetTakeover mode) rest e = differs (codes "SET") (codes "PERFORM") refl (ap head e)
perform_ends a word (SetSurveillance on) rest e = differs (codes "SET") (codes "PERFORM") refl (ap head e)

-- no word stands behind the second
inquire_ends : (a word : List ℕ) (command : Cebt) (rest : List (List ℕ)) → command_words command ≡ codes "INQUIRE" ∷ a ∷ word ∷ rest → ⊥
inquire_ends a word PerformTakeover rest e = differs (codes "PERFORM") (codes "INQUIRE") refl (ap head e)
inquire_ends a word PerformShutdown rest e = differs (codes "PERFORM") (codes "INQUIRE") refl (ap head e)
inquire_ends a word InquireTakeover rest e = let n = ap length e in omega arith
inquire_ends a word InquireSurveillance rest e = let n = ap length e in omega arith
inquire_ends a word (SetTakeover mode) rest e = differs (codes "SET") (codes "INQUIRE") refl (ap head e)
inquire_ends a word (SetSurveillance on) rest e = differs (codes "SET") (codes "INQUIRE") refl (ap head e)

-- no word stands behind the third
set_ends : (a b word : List ℕ) (command : Cebt) (rest : List (List ℕ)) → command_words command ≡ codes "SET" ∷ a ∷ b ∷ word ∷ rest → ⊥
set_ends a b word PerformTakeover rest e = differs (codes "PERFORM") (codes "SET") refl (ap head e)
set_ends a b word PerformShutdown rest e = differs (codes "PERFORM") (codes "SET") refl (ap head e)
set_ends a b word InquireTakeover rest e = differs (codes "INQUIRE") (codes "SET") refl (ap head e)
set_ends a b word InquireSurveillance rest e = differs (codes "INQUIRE") (codes "SET") refl (ap head e)
set_ends a b word (SetTakeover mode) rest e = let n = ap length e in omega arith
set_ends a b word (SetSurveillance on) rest e = let n = ap length e in omega arith

either : {X : Type 0} (P : X → Type 0) (b : Bool) (x y : X) → (b ≡ true → P x) → (b ≡ false → P y) → P (cond b x y)
either P true x y then other = then refl
either P false x y then other = other refl

-- the word is the one it was tested against
with_word : (key word : List ℕ) (front more : List (List ℕ)) (read : Result Cebt CebtFault) → bytes_eq word key ≡ true
    → IsRead (front ++ key ∷ more) read → IsRead (front ++ word ∷ more) read
with_word key word front more read e is_read = subst (λ (w : List ℕ). IsRead (front ++ w ∷ more) read) (sym (same word key e)) is_read

-- a command whose words are known begins with its own words
begins : (command : Cebt) (front rest : List (List ℕ)) → command_words command ≡ front ++ rest → BeginsCommand front
begins command front rest e = (command, (rest, e))

-- one word is no command, and neither are two of which the first is SET
one_word : (word : List ℕ) (command : Cebt) → command_words command ≢ word ∷ []
one_word word PerformTakeover e = let n = ap length e in omega arith
one_word word PerformShutdown e = let n = ap length e in omega arith
one_word word InquireTakeover e = let n = ap length e in omega arith
one_word word InquireSurveillance e = let n = ap length e in omega arith
one_word word (SetTakeover mode) e = let n = ap length e in omega arith
one_word word (SetSurveillance on) e = let n = ap length e in omega arith

two_words : (word : List ℕ) (command : Cebt) → command_words command ≢ codes "SET" ∷ word ∷ []
two_words word PerformTakeover e = differs (codes "PERFORM") (codes "SET") refl (ap head e)
two_words word PerformShutdown e = differs (codes "PERFORM") (codes "SET") refl (ap head e)
two_words word InquireTakeover e = differs (codes "INQUIRE") (codes "SET") refl (ap head e)
two_words word InquireSurveillance e = differs (codes "INQUIRE") (codes "SET") refl (ap head e)
two_words word (SetTakeover mode) e = let n = ap length e in omega arith
two_words word (SetSurveillance on) e = let n = ap length e in omega arith

-- behind PERFORM
perform_reads : (more : List (List ℕ)) → IsRead (codes "PERFORM" ∷ more) (perform_read more)
perform_reads [] = short (codes "PERFORM" ∷ []) 1 refl (begins PerformTakeover (codes "PERFORM" ∷ []) (codes "TAKEOVER" ∷ []) refl) (one_word (codes "PERFORM"))
perform_reads (word ∷ more) =
    either (IsRead (codes "PERFORM" ∷ word ∷ more)) (bytes_eq word (codes "TAKEOVER")) _ _
    (λ e. with_word (codes "TAKEOVER") word (codes "PERFORM" ∷ []) more _ e (ended PerformTakeover more (λ w b. perform_ends (codes "TAKEOVER") w b.0 b.1.0 b.1.1)))
    (λ n0. either (IsRead (codes "PERFORM" ∷ word ∷ more)) (bytes_eq word (codes "SHUTDOWN")) _ _
    (λ e. with_word (codes "SHUTDOWN") word (codes "PERFORM" ∷ []) more _ e (ended PerformShutdown more (λ w b. perform_ends (codes "SHUTDOWN") w b.0 b.1.0 b.1.1)))
    (λ n1. wrong (codes "PERFORM" ∷ []) word more (begins PerformTakeover (codes "PERFORM" ∷ []) (codes "TAKEOVER" ∷ []) refl) (λ b. after_perform word b.0 b.1.0 b.1.1 (differs word (codes "TAKEOVER") n0) (differs word (codes "SHUTDOWN") n1))))

-- behind INQUIRE
inquire_reads : (more : List (List ℕ)) → IsRead (codes "INQUIRE" ∷ more) (inquire_read more)
inquire_reads [] = short (codes "INQUIRE" ∷ []) 1 refl (begins InquireTakeover (codes "INQUIRE" ∷ []) (codes "TAKEOVER" ∷ []) refl) (one_word (codes "INQUIRE"))
inquire_reads (word ∷ more) =
    either (IsRead (codes "INQUIRE" ∷ word ∷ more)) (bytes_eq word (codes "TAKEOVER")) _ _
    (λ e. with_word (codes "TAKEOVER") word (codes "INQUIRE" ∷ []) more _ e (ended InquireTakeover more (λ w b. inquire_ends (codes "TAKEOVER") w b.0 b.1.0 b.1.1)))
    (λ n0. either (IsRead (codes "INQUIRE" ∷ word ∷ more)) (bytes_eq word (codes "SURVEILLANCE")) _ _
    (λ e. with_word (codes "SURVEILLANCE") word (codes "INQUIRE" ∷ []) more _ e (ended InquireSurveillance more (λ w b. inquire_ends (codes "SURVEILLANCE") w b.0 b.1.0 b.1.1)))
    (λ n1. wrong (codes "INQUIRE" ∷ []) word more (begins InquireTakeover (codes "INQUIRE" ∷ []) (codes "TAKEOVER" ∷ []) refl) (λ b. after_inquire word b.0 b.1.0 b.1.1 (differs word (codes "TAKEOVER") n0) (differs word (codes "SURVEILLANCE") n1))))

-- behind SET TAKEOVER
mode_reads : (more : List (List ℕ)) → IsRead (codes "SET" ∷ codes "TAKEOVER" ∷ more) (mode_read more)
mode_reads [] = short (codes "SET" ∷ codes "TAKEOVER" ∷ []) 2 refl (begins (SetTakeover Auto) (codes "SET" ∷ codes "TAKEOVER" ∷ []) (codes "AUTO" ∷ []) refl) (two_words (codes "TAKEOVER"))
mode_reads (word ∷ more) =
    either (IsRead (codes "SET" ∷ codes "TAKEOVER" ∷ word ∷ more)) (bytes_eq word (codes "AUTO")) _ _
    (λ e. with_word (codes "AUTO") word (codes "SET" ∷ codes "TAKEOVER" ∷ []) more _ e (ended (SetTakeover Auto) more (λ w b. set_ends (codes "TAKEOVER") (codes "AUTO") w b.0 b.1.0 b.1.1)))
    (λ n0. either (IsRead (codes "SET" ∷ codes "TAKEOVER" ∷ word ∷ more)) (bytes_eq word (codes "MANUAL")) _ _
    (λ e. with_word (codes "MANUAL") word (codes "SET" ∷ codes "TAKEOVER" ∷ []) more _ e (ended (SetTakeover Manual) more (λ w b. set_ends (codes "TAKEOVER") (codes "MANUAL") w b.0 b.1.0 b.1.1)))
    (λ n1. either (IsRead (codes "SET" ∷ codes "TAKEOVER" ∷ word ∷ more)) (bytes_eq word (codes "COMMAND")) _ _
    (λ e. with_word (codes "COMMAND") word (codes "SET" ∷ codes "TAKEOVER" ∷ []) more _ e (ended (SetTakeover Command) more (λ w b. set_ends (codes "TAKEOVER") (codes "COMMAND") w b.0 b.1.0 b.1.1)))
    (λ n2. wrong (codes "SET" ∷ codes "TAKEOVER" ∷ []) word more (begins (SetTakeover Auto) (codes "SET" ∷ codes "TAKEOVER" ∷ []) (codes "AUTO" ∷ []) refl) (λ b. after_set_takeover word b.0 b.1.0 b.1.1 (differs word (codes "AUTO") n0) (differs word (codes "MANUAL") n1) (differs word (codes "COMMAND") n2)))))

-- behind SET SURVEILLANCE
switch_reads : (more : List (List ℕ)) → IsRead (codes "SET" ∷ codes "SURVEILLANCE" ∷ more) (switch_read more)
switch_reads [] = short (codes "SET" ∷ codes "SURVEILLANCE" ∷ []) 2 refl (begins (SetSurveillance true) (codes "SET" ∷ codes "SURVEILLANCE" ∷ []) (codes "ON" ∷ []) refl) (two_words (codes "SURVEILLANCE"))
switch_reads (word ∷ more) =
    either (IsRead (codes "SET" ∷ codes "SURVEILLANCE" ∷ word ∷ more)) (bytes_eq word (codes "ON")) _ _
    (λ e. with_word (codes "ON") word (codes "SET" ∷ codes "SURVEILLANCE" ∷ []) more _ e (ended (SetSurveillance true) more (λ w b. set_ends (codes "SURVEILLANCE") (codes "ON") w b.0 b.1.0 b.1.1)))
    (λ n0. either (IsRead (codes "SET" ∷ codes "SURVEILLANCE" ∷ word ∷ more)) (bytes_eq word (codes "OFF")) _ _
    (λ e. with_word (codes "OFF") word (codes "SET" ∷ codes "SURVEILLANCE" ∷ []) more _ e (ended (SetSurveillance false) more (λ w b. set_ends (codes "SURVEILLANCE") (codes "OFF") w b.0 b.1.0 b.1.1)))
    (λ n1. wrong (codes "SET" ∷ codes "SURVEILLANCE" ∷ []) word more (begins (SetSurveillance true) (codes "SET" ∷ codes "SURVEILLANCE" ∷ []) (codes "ON" ∷ []) refl) (λ b. after_set_surveillance word b.0 b.1.0 b.1.1 (differs word (codes "ON") n0) (differs word (codes "OFF") n1))))

-- behind SET
set_reads : (more : List (List ℕ)) → IsRead (codes "SET" ∷ more) (set_read more)
set_reads [] = short (codes "SET" ∷ []) 1 refl (begins (SetTakeover Auto) (codes "SET" ∷ []) (codes "TAKEOVER" ∷ codes "AUTO" ∷ []) refl) (one_word (codes "SET"))
set_reads (word ∷ more) =
    either (IsRead (codes "SET" ∷ word ∷ more)) (bytes_eq word (codes "TAKEOVER")) _ _
    (λ e. with_word (codes "TAKEOVER") word (codes "SET" ∷ []) more _ e (mode_reads more))
    (λ n0. either (IsRead (codes "SET" ∷ word ∷ more)) (bytes_eq word (codes "SURVEILLANCE")) _ _
    (λ e. with_word (codes "SURVEILLANCE") word (codes "SET" ∷ []) more _ e (switch_reads more))
    (λ n1. wrong (codes "SET" ∷ []) word more (begins (SetTakeover Auto) (codes "SET" ∷ []) (codes "TAKEOVER" ∷ codes "AUTO" ∷ []) refl) (λ b. after_set word b.0 b.1.0 b.1.1 (differs word (codes "TAKEOVER") n0) (differs word (codes "SURVEILLANCE") n1))))

-- What is read of the words is a command that has these words, or the first wrong word.
pub command_reads : (ws : List (List ℕ)) → IsRead ws (command_read ws)
command_reads [] = short [] 0 refl (begins PerformTakeover [] _ refl) no_word
command_reads (word ∷ more) =
    either (IsRead (word ∷ more)) (bytes_eq word (codes "PERFORM")) _ _
    (λ e. with_word (codes "PERFORM") word [] more _ e (perform_reads more))
    (λ n0. either (IsRead (word ∷ more)) (bytes_eq word (codes "INQUIRE")) _ _
    (λ e. with_word (codes "INQUIRE") word [] more _ e (inquire_reads more))
    (λ n1. either (IsRead (word ∷ more)) (bytes_eq word (codes "SET")) _ _
    (λ e. with_word (codes "SET") word [] more _ e (set_reads more))
    (λ n2. wrong [] word more (begins PerformTakeover [] _ refl) (λ b. first_word word b.0 b.1.0 b.1.1 (differs word (codes "PERFORM") n0) (differs word (codes "INQUIRE") n1) (differs word (codes "SET") n2)))))

-- The words of a command are read as that command.
pub command_read-words : (command : Cebt) → command_read (command_words command) ≡ Ok command
command_read-words PerformTakeover = refl
command_read-words PerformShutdown = refl
command_read-words InquireTakeover = refl
command_read-words InquireSurveillance = refl
command_read-words (SetTakeover Auto) = refl
command_read-words (SetTakeover Manual) = refl
command_read-words (SetTakeover Command) = refl
command_read-words (SetSurveillance true) = refl
command_read-words (SetSurveillance false) = refl

by_answer : (ws : List (List ℕ)) (answer : Result Cebt CebtFault) → IsRead ws answer
    → IfOk answer (λ command. ws ≡ command_words command) × IfErr answer (λ f. IsFault ws f.word)
by_answer ws (Ok command) is_read = (is_read, tt)
by_answer ws (Err f) is_read = (tt, is_read)

-- an answer that is what is read of the words
pub answered : (ws : List (List ℕ)) (answer : Result Cebt CebtFault) → answer ≡ command_read ws
    → IfOk answer (λ command. ws ≡ command_words command) × IfErr answer (λ f. IsFault ws f.word)
answered ws answer e = by_answer ws answer (subst (IsRead ws) (sym e) (command_reads ws))

pub answered-only : (ws : List (List ℕ)) (answer : Result Cebt CebtFault) → answer ≡ command_read ws → (command : Cebt) → ws ≡ command_words command → answer ≡ Ok command
answered-only ws answer e command spelled = e ∙ ap command_read spelled ∙ command_read-words command
