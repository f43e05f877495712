-- Words that are no keywords: sites, numbers, names, values and hex.
use Rattle.std.specs.Prelude.{ℕ, Bool, true, false, ◌%◌, ◌==◌, ◌&&◌, nat_le, List, codes, Option, Some, None, if◌then◌else◌}
use Rattle.std.specs.Option.{is_some, option_and_then}
use Rattle.std.specs.Str.{bytes_eq}
use Rattle.xrf_base.specs.Names.{is_name}
use Rattle.xrf_base.specs.Values.{is_value}
use Rattle.xrf_base.specs.declared.site.Site.{Site as Place}
use Rattle.xrf_base.specs.declared.site.Site.TheVariants as site
use Rattle.xrf_grammar.specs.declared.reason.Reason.{Reason}
use Rattle.xrf_grammar.specs.declared.reason.Reason.TheVariants.{BadSite, BadNumber, OutOfRange, BadName, BadValue, BadHex}
use Rattle.xrf_grammar.specs.declared.form.Part.{Part}
use Rattle.xrf_grammar.specs.declared.form.Part.TheVariants.{Keyword, Refused, Site, Number, Multiple, Name, Value, Hex, Words}
use Rattle.xrf_grammar.specs.Hex.{is_hex}
use Rattle.xrf_grammar.specs.Numbers.{number_of}

abbrev pub site_of : List ℕ → Option Place
site_of word = if bytes_eq word (codes "A") then Some site.A else if bytes_eq word (codes "B") then Some site.B else None

-- the class of a terminal, 1 to 3
abbrev pub class_of : List ℕ → Option ℕ
class_of word = option_and_then (λ n. if nat_le 1 n && nat_le n 3 then Some n else None) (number_of word)

abbrev pub fault_unless : Bool → Reason → Option Reason
fault_unless true reason = None
fault_unless false reason = Some reason

-- 0 has no multiples here
abbrev pub is_multiple_of : ℕ → ℕ → Bool
is_multiple_of number unit = if unit == 0 then false else number % unit == 0

-- what is wrong with a number that may be there
abbrev pub number_fault : (ℕ → Bool) → Option ℕ → Option Reason
number_fault kept None = Some BadNumber
number_fault kept (Some number) = fault_unless (kept number) OutOfRange

abbrev pub range_fault : ℕ → ℕ → List ℕ → Option Reason
range_fault least most word = number_fault (λ n. nat_le least n && nat_le n most) (number_of word)

abbrev pub multiple_fault : ℕ → ℕ → ℕ → List ℕ → Option Reason
multiple_fault least most unit word = number_fault (λ n. nat_le least n && nat_le n most && is_multiple_of n unit) (number_of word)

-- what is wrong with a word in the place of a part that is no keyword
abbrev pub operand_fault : Part → List ℕ → Option Reason
operand_fault Site word = fault_unless (is_some (site_of word)) BadSite
operand_fault (Number least most) word = range_fault least most word
operand_fault (Multiple least most unit) word = multiple_fault least most unit word
operand_fault Name word = fault_unless (is_name word) BadName
operand_fault Value word = fault_unless (is_value word) BadValue
operand_fault Hex word = fault_unless (is_hex word) BadHex
operand_fault Words word = None
operand_fault (Keyword keyword reason) word = None
operand_fault (Refused keyword reason) word = None
