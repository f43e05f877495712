-- What the lines of a text keep of what is said.
use Rattle.std.specs.Prelude.{◌≡◌, ◌≤◌, ℕ, Bool, true, false, List, [], length, None, IfSome}
use Rattle.std.specs.List.{AllByRecursion}
use Rattle.xrf_base.specs.Values.{IsValue}
use Rattle.xrf_base.specs.declared.site.Site.TheVariants.{A, B}
use Rattle.xrf_clt.specs.Lines.{fault_of, words_kept}
use Rattle.xrf_grammar.specs.LineText.{IsSetting}
use Rattle.xrf_setup.specs.Items.{IsItemOf}
use Rattle.xrf_grammar.specs.Places.{behind}
use Rattle.xrf_setup.specs.Choices.{HasLine}
use Rattle.xrf_setup.specs.declared.format.Format.{Format}
use Rattle.xrf_setup.specs.declared.ranges.TheConstants.{FILE_MOST, CLT_MOST, ITEMS_MOST, PLAN_MOST, CHOICES_MOST}
use Rattle.xrf_grammar.specs.declared.quantity.Quantity.{Quantity as Setting}
use Rattle.xrf_grammar.specs.declared.line.Line.{Line}
use Rattle.xrf_grammar.specs.declared.line.Line.TheVariants.{Applid, Quantity, Level, Xrfsoff, Clt}
use Rattle.xrf_setup.specs.Scenario.{ArePlanned}
use Rattle.xrf_setup.specs.Commands.{IsKept}
use Rattle.xrf_scenario.specs.SoFar.{SoFar, nothing_given, quantity_given}
use Rattle.xrf_scenario.specs.Taking.{are_within}
use Rattle.xrf_scenario.specs.declared.given.Given.{Given}
use Rattle.xrf_scenario.specs.declared.section.Section.{Section}
use Rattle.xrf_scenario.specs.declared.section.Section.TheVariants.{Start, Making, Whole}
use Rattle.xrf_scenario.specs.declared.numbered.Numbered.{Numbered}

-- what is known of a line before the choices that some words spell
abbrev pub IsLineSaid : Format → List (List ℕ) → Line → Type 0
IsLineSaid format ws Clt = (fault_of (behind ws) ≡ None) × IsKept (words_kept (behind ws))
IsLineSaid format ws line = IsSetting format line

-- CHOICES has come
abbrev pub is_past : Section → Bool
is_past Making = true
is_past Whole = true
is_past _ = false

-- settings within their ranges
pub record IsGiven (format : Format) (given : Given) : Type 0 where
  pub applid_a : IfSome given.applid_a (λ name. IsSetting format (Applid A name))
  pub applid_b : IfSome given.applid_b (λ name. IsSetting format (Applid B name))
  pub quantities : (quantity : Setting) → IfSome (quantity_given given quantity) (λ n. IsSetting format (Quantity quantity n))
  pub level_a : IfSome given.level_a (λ n. IsSetting format (Level A n))
  pub level_b : IfSome given.level_b (λ n. IsSetting format (Level B n))
  pub force : IfSome given.force (λ force. IsSetting format (Xrfsoff force))

-- before the header nothing is said
abbrev pub IsFresh : Section → SoFar → Type 0
IsFresh Start so = (so.given ≡ nothing_given) × (so.work_a ≡ []) × (so.work_b ≡ [])
IsFresh _ so = Unit {0}

pub record IsSaid (so : SoFar) : Type 0 where
  pub fresh : IsFresh so.section so
  pub given : IsGiven so.format so.given
  pub places : length so.records ≡ FILE_MOST
  pub values : AllByRecursion (λ place. IfSome place IsValue) so.records
  pub clt : AllByRecursion IsKept so.clt
  pub clt_few : length so.clt ≤ CLT_MOST
  pub work_a : AllByRecursion (IsItemOf so.format) so.work_a
  pub work_a_few : length so.work_a ≤ ITEMS_MOST
  pub work_b : AllByRecursion (IsItemOf so.format) so.work_b
  pub work_b_few : length so.work_b ≤ ITEMS_MOST
  pub plan : ArePlanned 0 so.plan
  pub plan_few : length so.plan ≤ PLAN_MOST
  pub choices : AllByRecursion (λ (n : Numbered). HasLine n.choice) so.choices
  pub choices_few : length so.choices ≤ CHOICES_MOST
  pub within : is_past so.section ≡ true → are_within so ≡ true
