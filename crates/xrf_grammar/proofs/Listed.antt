-- Where the forms stand in the table.
use Rattle.std.proofs.Common.{◌≡◌, inl, inr, ℕ, zero, suc, Bool, true, false, not, List, [], ◌∷◌, ◌+◌, length, filter, drop, Option, Some, None, refl, ap, subst, sym}
use Rattle.xrf_grammar.specs.declared.form.ChoiceForm.{ChoiceForm}
use Rattle.xrf_grammar.specs.declared.form.Form.{Form}
use Rattle.xrf_grammar.specs.declared.form.Form.TheVariants as form
use Rattle.xrf_setup.specs.declared.format.Format.{Format}
use Rattle.xrf_setup.specs.declared.format.Format.TheVariants.{One, Two}
use Rattle.xrf_grammar.specs.Grammar.{IsAmong}
use Rattle.xrf_grammar.specs.Quantities.{quantities}
use Rattle.xrf_grammar.specs.Table.{choice_parts, planned_parts, settings_of_two, is_of_two, settings_of, choices_table}
use Rattle.xrf_grammar.proofs.PlainLaws.{is_short}
use Rattle.xrf_grammar.specs.declared.form.ChoiceForm.TheVariants as by
use Rattle.xrf_base.specs.declared.site.Takeovr.TheVariants.{Auto, Manual, Command}
use Rattle.xrf_cebt.specs.declared.commands.Cebt.TheVariants.{PerformTakeover, PerformShutdown, InquireTakeover, InquireSurveillance, SetTakeover, SetSurveillance}
use Rattle.xrf_exit.specs.declared.ExitAnswer.TheVariants as answer

-- the form at a place of a table
abbrev pub at_place : ℕ → List Form → Option Form
at_place place [] = None
at_place zero (form ∷ forms) = Some form
at_place (suc place) (form ∷ forms) = at_place place forms

-- the place of a form of the settings that stands so far behind the quantities
abbrev pub after_quantities : ℕ → ℕ
after_quantities place = 4 + (length quantities + place)

-- a form that stands at a place is among the forms
pub listed : (place : ℕ) (forms : List Form) (form : Form) → at_place place forms ≡ Some form → IsAmong form forms
listed place [] form h = absurd (cc)
listed zero (first ∷ forms) form h = inl (cc)
listed (suc place) (first ∷ forms) form h = inr (listed place forms form h)

-- a form that XRF 1 has is among those that are left of it
kept_in_one : (forms : List Form) (form : Form) → is_of_two form ≡ false → IsAmong form forms → IsAmong form (filter (λ f. not (is_of_two f)) forms)
kept_in_one [] form h among = absurd among
kept_in_one (first ∷ forms) form h (inl same) =
    let one : not (is_of_two first) ≡ true = subst (λ (f : Form). not (is_of_two f) ≡ true) (sym same) (ap not h) in
    rw one (inl same)
kept_in_one (first ∷ forms) form h (inr later) = by (not (is_of_two first)) refl (kept_in_one forms form h later)
  where
    by : (kept : Bool) → not (is_of_two first) ≡ kept → IsAmong form (filter (λ f. not (is_of_two f)) forms) → IsAmong form (filter (λ f. not (is_of_two f)) (first ∷ forms))
    by true e rest = rw e (inr rest)
    by false e rest = rw e rest

-- a form of both formats is among the settings of each
pub in_both : (format : Format) (place : ℕ) (form : Form) → at_place place settings_of_two ≡ Some form → is_of_two form ≡ false → IsAmong form (settings_of format)
in_both One place form h one = kept_in_one settings_of_two form one (listed place settings_of_two form h)
in_both Two place form h one = listed place settings_of_two form h

-- a form is among the settings of XRF 2
pub in_two : (format : Format) (place : ℕ) (form : Form) → at_place place settings_of_two ≡ Some form → format ≡ Two → IsAmong form (settings_of format)
in_two format place form h two = subst (λ (f : Format). IsAmong form (settings_of f)) (sym two) (listed place settings_of_two form h)

-- where each form of a choice stands among them
abbrev pub choice_place : ChoiceForm → ℕ
choice_place by.Tick = 0
choice_place by.TickTimes = 1
choice_place by.Step = 2
choice_place by.StepTimes = 3
choice_place by.Lose = 4
choice_place by.StopNothing = 5
choice_place by.StopAll = 6
choice_place by.StopTorn = 7
choice_place by.FailNothing = 8
choice_place by.FailAll = 9
choice_place by.FailTorn = 10
choice_place by.StartActive = 11
choice_place by.StartStandby = 12
choice_place by.Abend = 13
choice_place by.Confirm = 14
choice_place (by.Reply true) = 15
choice_place (by.Reply false) = 16
choice_place (by.Cebt PerformTakeover) = 17
choice_place (by.Cebt PerformShutdown) = 18
choice_place (by.Cebt InquireTakeover) = 19
choice_place (by.Cebt InquireSurveillance) = 20
choice_place (by.Cebt (SetTakeover Auto)) = 21
choice_place (by.Cebt (SetTakeover Manual)) = 22
choice_place (by.Cebt (SetTakeover Command)) = 23
choice_place (by.Cebt (SetSurveillance true)) = 24
choice_place (by.Cebt (SetSurveillance false)) = 25
choice_place (by.Exit answer.Abend) = 26
choice_place (by.Exit answer.Keep) = 27
choice_place (by.Exit answer.Drop) = 28

-- What holds of each form of a choice: where it stands behind the line CHOICES and behind PLAN, and
-- that both forms are short.
record IsInTable (f : ChoiceForm) : Type 0 where
  chosen : at_place (choice_place f) choices_table ≡ Some (form.Choice f)
  planned : at_place (choice_place f) (drop (after_quantities 20) settings_of_two) ≡ Some (form.Plan f)
  short : is_short (choice_parts f) ≡ true
  short_plan : is_short (planned_parts f) ≡ true

-- this holds of each form of a choice
in_table : (f : ChoiceForm) → IsInTable f
in_table by.Tick = record { chosen = refl; planned = refl; short = refl; short_plan = refl }
in_table (by.Reply true) = record { chosen = refl; planned = refl; short = refl; short_plan = refl }
in_table (by.Reply false) = record { chosen = refl; planned = refl; short = refl; short_plan = refl }
in_table (by.Cebt (SetTakeover Auto)) = record { chosen = refl; planned = refl; short = refl; short_plan = refl }
in_table (by.Cebt (SetTakeover _)) = record { chosen = refl; planned = refl; short = refl; short_plan = refl }
in_table (by.Cebt (SetSurveillance true)) = record { chosen = refl; planned = refl; short = refl; short_plan = refl }
in_table (by.Cebt (SetSurveillance false)) = record { chosen = refl; planned = refl; short = refl; short_plan = refl }
in_table (by.Cebt _) = record { chosen = refl; planned = refl; short = refl; short_plan = refl }
in_table (by.Exit answer.Abend) = record { chosen = refl; planned = refl; short = refl; short_plan = refl }
in_table (by.Exit _) = record { chosen = refl; planned = refl; short = refl; short_plan = refl }
in_table _ = record { chosen = refl; planned = refl; short = refl; short_plan = refl }

-- each form of a choice stands behind the line CHOICES
pub choice-listed : (f : ChoiceForm) → IsAmong (form.Choice f) choices_table
choice-listed f = listed (choice_place f) choices_table (form.Choice f) (in_table f).chosen

-- what is among the last forms is among the forms
from_back : (count : ℕ) (forms : List Form) (form : Form) → IsAmong form (drop count forms) → IsAmong form forms
from_back zero forms form h = h
from_back (suc count) [] form h = absurd h
from_back (suc count) (first ∷ forms) form h = inr (from_back count forms form h)

-- a form behind PLAN is among the settings of XRF 2
planned-among : (f : ChoiceForm) → IsAmong (form.Plan f) settings_of_two
planned-among f = from_back (after_quantities 20) settings_of_two (form.Plan f) (listed (choice_place f) (drop (after_quantities 20) settings_of_two) (form.Plan f) (in_table f).planned)

-- and among the settings of each format
pub plan-listed : (format : Format) (f : ChoiceForm) → IsAmong (form.Plan f) (settings_of format)
plan-listed One f = kept_in_one settings_of_two (form.Plan f) refl (planned-among f)
plan-listed Two f = planned-among f

-- a form of a choice is short
pub choice-short : (f : ChoiceForm) → is_short (choice_parts f) ≡ true
choice-short f = (in_table f).short

-- and behind PLAN
pub plan-short : (f : ChoiceForm) → is_short (planned_parts f) ≡ true
plan-short f = (in_table f).short_plan
