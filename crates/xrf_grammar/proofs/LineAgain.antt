-- What is written of a header and of a line is read again, and is plain.
use Rattle.std.proofs.Common.{◌≡◌, inl, inr, arith, ℕ, true, List, [], ◌∷◌, Ok, codes, refl, ◌∙◌, ap, sym, subst}
use Rattle.xrf_base.specs.Names.{IsName}
use Rattle.xrf_text.specs.Text.{words}
use Rattle.xrf_text.proofs.Joined.{words-joined}
use Rattle.xrf_setup.specs.declared.choice.Choice.{Choice}
use Rattle.xrf_grammar.specs.declared.form.Form.{Form}
use Rattle.xrf_grammar.specs.declared.form.Form.TheVariants.{CltCancel, CltCommand, CltWto}
use Rattle.xrf_setup.specs.declared.format.Format.{Format}
use Rattle.xrf_setup.specs.declared.format.Format.TheVariants.{One, Two}
use Rattle.xrf_grammar.specs.declared.line.Line.{Line}
use Rattle.xrf_grammar.specs.declared.line.Line.TheVariants.{Clt, Once}
use Rattle.xrf_grammar.specs.LineText.{IsSetting, IsChoosing, IsCommand, header_text, line_text}
use Rattle.xrf_grammar.specs.Plain.{IsPlain}
use Rattle.xrf_grammar.specs.Reading.{header_of, line_of}
use Rattle.xrf_setup.specs.Choices.{HasLine}
use Rattle.xrf_grammar.specs.Spelling.{choice_text}
use Rattle.xrf_grammar.specs.Table.{choices_table, parts_of, settings_of}
use Rattle.xrf_grammar.proofs.ApartLaws.{are_apart, choices-apart, line-again, settings-apart}
use Rattle.xrf_grammar.proofs.Listed.{after_quantities, in_both}
use Rattle.xrf_grammar.proofs.PlainLaws.{form-plain, form-words}
use Rattle.xrf_grammar.proofs.WrittenLines.{Written, choosing-written, setting-written}

-- what is written by words of a form is read again
written-again : (forms : List Form) (line : Line) → are_apart forms ≡ true → Written forms line → line_of forms (words (line_text line)) ≡ Ok line
written-again forms line apart w =
    ap (λ (t : List ℕ). line_of forms (words t)) w.joined
    ∙ ap (line_of forms) (words-joined w.ws (form-words (parts_of w.form) w.ws w.short w.fit))
    ∙ line-again forms w.ws line apart record { form = w.form; among = w.among; fit = w.fit; line = w.says }

-- and is a plain line
written-plain : (forms : List Form) (line : Line) → Written forms line → IsPlain (line_text line)
written-plain forms line w = subst IsPlain (sym w.joined) (form-plain (parts_of w.form) w.ws w.short w.fit)

-- What is written of a line before the choices is read again as this line.
pub setting_again : (format : Format) (line : Line) → IsSetting format line → line_of (settings_of format) (words (line_text line)) ≡ Ok line
setting_again format line h = written-again (settings_of format) line (settings-apart format) (setting-written format line h)

-- What is written of a line of the choices is read again as this line.
pub choosing_again : (line : Line) → IsChoosing line → line_of choices_table (words (line_text line)) ≡ Ok line
choosing_again line h = written-again choices_table line choices-apart (choosing-written line h)

-- What is written of a header is read again as its format.
pub header_again : (format : Format) → header_of (words (header_text format)) ≡ Ok format
header_again One = refl
header_again Two = refl

-- The words of a line of the command list are read as such a line.
pub clt_again : (format : Format) (applid kind : List ℕ) (operands : List (List ℕ)) → IsName applid → IsCommand kind operands
    → line_of (settings_of format) (codes "CLT" ∷ applid ∷ kind ∷ operands) ≡ Ok Clt
clt_again format applid kind [] is (inl cancel) = absurd cancel.1
clt_again format applid kind (name ∷ []) is (inl cancel) =
    line-again (settings_of format) (codes "CLT" ∷ applid ∷ kind ∷ name ∷ []) Clt (settings-apart format) record {
      form = CltCancel;
      among = in_both format (after_quantities 6) CltCancel refl refl;
      fit = (refl, (is, (cancel.0, (cancel.1, tt))));
      line = refl;
    }
clt_again format applid kind (name ∷ next ∷ more) is (inl cancel) = absurd cancel.1
clt_again format applid kind [] is (inr any) = absurd (any.1 refl)
clt_again format applid kind (operand ∷ more) is (inr (inl command, some)) =
    line-again (settings_of format) (codes "CLT" ∷ applid ∷ kind ∷ operand ∷ more) Clt (settings-apart format) record {
      form = CltCommand;
      among = in_both format (after_quantities 7) CltCommand refl refl;
      fit = (refl, (is, (command, tt)));
      line = refl;
    }
clt_again format applid kind (operand ∷ more) is (inr (inr wto, some)) =
    line-again (settings_of format) (codes "CLT" ∷ applid ∷ kind ∷ operand ∷ more) Clt (settings-apart format) record {
      form = CltWto;
      among = in_both format (after_quantities 8) CltWto refl refl;
      fit = (refl, (is, (wto, tt)));
      line = refl;
    }

-- What is written of a line before the choices is plain.
pub setting_plain : (format : Format) (line : Line) → IsSetting format line → IsPlain (line_text line)
setting_plain format line h = written-plain (settings_of format) line (setting-written format line h)

-- What is written of a line of the choices is plain.
pub choosing_plain : (line : Line) → IsChoosing line → IsPlain (line_text line)
choosing_plain line h = written-plain choices_table line (choosing-written line h)

-- What is written of a choice is plain.
pub choice_plain : (c : Choice) → HasLine c → IsPlain (choice_text c)
choice_plain c h = choosing_plain (Once c) h

-- What is written of a header is plain.
pub header_plain : (format : Format) → IsPlain (header_text format)
header_plain One = record {
  first = 88;
  rest = codes "RF 1";
  starts = refl;
  letter = (omega arith, omega arith);
  bytes = ((omega arith, omega arith), ((omega arith, omega arith), ((omega arith, omega arith), ((omega arith, omega arith), ((omega arith, omega arith), tt)))));
  short = omega arith;
}
header_plain Two = record {
  first = 88;
  rest = codes "RF 2";
  starts = refl;
  letter = (omega arith, omega arith);
  bytes = ((omega arith, omega arith), ((omega arith, omega arith), ((omega arith, omega arith), ((omega arith, omega arith), ((omega arith, omega arith), tt)))));
  short = omega arith;
}
