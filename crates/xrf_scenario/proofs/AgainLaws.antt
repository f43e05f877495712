-- A line that is the same as one that says a choice once says it too.
use Rattle.std.proofs.Common.{◌≡◌, ◌∙◌, ℕ, Bool, true, false, if◌then◌else◌, List, Option, Some, None, Result, Ok, Err, IfSome, refl, sym, subst, ap}
use Rattle.std.specs.Str.{bytes_eq}
use Rattle.std.proofs.lemmas.Slice.Eq.{bytes_eq-Decides}
use Rattle.xrf_grammar.specs.declared.line.Line.TheVariants.{Once}
use Rattle.xrf_setup.specs.declared.choice.Choice.{Choice}
use Rattle.xrf_text.specs.Text.{words}
use Rattle.xrf_grammar.specs.declared.reason.Reason.{Reason}
use Rattle.xrf_grammar.specs.declared.reason.Reason.TheVariants.{AfterEnd}
use Rattle.xrf_scenario.specs.Lines.{is_skipped, is_report, bytes_fault}
use Rattle.xrf_scenario.specs.Machine.{SaysOnce, step, take_line, take_words}
use Rattle.xrf_scenario.specs.SoFar.{SoFar, is_whole}
use Rattle.xrf_scenario.specs.declared.section.Section.{Section}
use Rattle.xrf_scenario.specs.declared.section.Section.TheVariants.{Making}

pub same_says : (line last : List ℕ) (choice : Option Choice) → bytes_eq line last ≡ true → IfSome choice (λ c. SaysOnce last c) → IfSome choice (λ c. SaysOnce line c)
same_says line last choice same says = subst (λ (l : List ℕ). IfSome choice (λ c. SaysOnce l c)) (sym ((bytes_eq-Decides line last).0 same)) says

-- a line that is not skipped, before END, whose bytes have no fault
passes : (skipped whole : Bool) (fault : Option Reason) (a b c : Result SoFar Reason) → skipped ≡ false → whole ≡ false → fault ≡ None
    → (if skipped then a else if whole then b else elim fault [ Some reason ↦ Err reason | None ↦ c ]) ≡ c
passes true whole fault a b c s w f = absurd (cc)
passes false true fault a b c s w f = absurd (cc)
passes false false (Some reason) a b c s w f = absurd (cc)
passes false false None a b c s w f = refl

-- what is made of such a line
pub taken_again : (number : ℕ) (so : SoFar) (line : List ℕ) (choice : Choice) → so.section ≡ Making → SaysOnce line choice
    → step number so line ≡ take_line number so (words line) (Ok (Once choice))
taken_again number so line choice making says =
    passes (is_skipped line) (is_whole so.section) (bytes_fault line) (Ok so) (if is_report line then Ok so else Err AfterEnd) (take_words so.section number so (words line)) says.shown (ap is_whole making) says.bytes
    ∙ ap (λ (p : Section). take_words p number so (words line)) making ∙ ap (take_line number so (words line)) says.spelled
