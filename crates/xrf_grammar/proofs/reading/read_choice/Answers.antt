use Rattle.std.proofs.Common.{◌∙◌, ap, List, Ok}
use Rattle.xrf_text.specs.Text.{words}
use Rattle.xrf_grammar.specs.declared.form.Form.{Form}
use Rattle.xrf_grammar.specs.Reading.{line_of}
use Rattle.xrf_grammar.specs.Table.{choices_table}
use Rattle.xrf_grammar.proofs.FormLaws.{found_by_reading}
use Rattle.xrf_grammar.proofs.ApartLaws.{no_choice}
use Rattle.xrf_grammar.proofs.reading.read_choice.Goals as goal

pub returns-in-None-clause-none : goal.returns-in-None-clause-none
returns-in-None-clause-none c =
    no_choice (words c.args.line.now) c.read_by_form.result (c.read_by_form.ensures ∙ ap (λ (forms : List Form). line_of forms (words c.args.line.now)) c.choices.ensures)

pub returns-in-Some-clause-found : goal.returns-in-Some-clause-found
returns-in-Some-clause-found c = found_by_reading choices_table (words c.args.line.now) (Ok c.in-Some.says) c.in-Some.ensures
