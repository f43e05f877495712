use Rattle.std.proofs.Common.{codes}
use Rattle.xrf_text.specs.Text.{words}
use Rattle.xrf_grammar.proofs.SpelledLaws.{setting_behind}
use Rattle.xrf_grammar.proofs.WorkLaws.{same_key}
use Rattle.xrf_grammar.proofs.reading_at_once.setting_at_once.Goals as goal

pub returns-then-eq : goal.returns-then-eq
returns-then-eq c =
    setting_behind c.args.format (words c.args.line.now) (words c.in_ok-word.rest.now) c.in_ok-word.word.now (codes "RECORD") c.record_behind.result c.in_ok-word.ensures.first
    (same_key c.in_ok-word.word.now (codes "RECORD") c.as_slice.result.now c.eq.result c.eq.ensures c.if-eq.true c.as_slice.ensures) c.record_behind.ensures

pub returns-then-eq-2 : goal.returns-then-eq-2
returns-then-eq-2 c =
    setting_behind c.args.format (words c.args.line.now) (words c.in_ok-word.rest.now) c.in_ok-word.word.now (codes "CLT") c.message_behind.result c.in_ok-word.ensures.first
    (same_key c.in_ok-word.word.now (codes "CLT") c.as_slice-2.result.now c.eq-2.result c.eq-2.ensures c.if-eq-2.true c.as_slice-2.ensures) c.message_behind.ensures

pub returns-then-eq-3 : goal.returns-then-eq-3
returns-then-eq-3 c =
    setting_behind c.args.format (words c.args.line.now) (words c.in_ok-word.rest.now) c.in_ok-word.word.now (codes "WORK") c.put_behind.result c.in_ok-word.ensures.first
    (same_key c.in_ok-word.word.now (codes "WORK") c.as_slice-3.result.now c.eq-3.result c.eq-3.ensures c.if-eq-3.true c.as_slice-3.ensures) c.put_behind.ensures
