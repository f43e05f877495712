use Rattle.std.proofs.Common.{◌≤◌, ◌<◌, ◌+◌, ◌∙◌, length, refl, arith}
use Rattle.std.proofs.lemmas.List.{length-set}
use Rattle.std.proofs.lemmas.Bool.Decides.{nat_tests}
use Rattle.xrf_text.specs.Text.{words}
use Rattle.xrf_text.proofs.Held.{held-more, held-all, held-count}
use Rattle.xrf_text.proofs.line_words.LineWords.split.Goals as goal

pub loop-word-preserved : goal.loop-word-preserved
loop-word-preserved c =
    let held = c.loop-word.self-inside.words in
    let known = c.loop-word.invariant in
    let room : c.loop-word.count + 1 ≤ 8 = grind (arith, nat_tests) in
    let inside : c.loop-word.count < length held = omega (arith, known.1) in (
      room,
      length-set held c.loop-word.count c.in-Some.word ∙ known.1,
      held-more held c.loop-word.count c.in-Some.word (words c.args.line.now) (words c.loop-word.rest.now) (words c.in-Some.behind.now) inside known.2 c.in-Some.ensures.first,
      known.3,
    )

pub returns-clause-few : goal.returns-clause-few
returns-clause-few c =
    let known = c.loop-word.invariant in
    let held = held-all _ (words c.args.line.now) _ known.2 c.in_default.ensures.first in
    let count = held-count c.loop-word.self-inside.words c.loop-word.count (words c.args.line.now) (omega (arith, known.0, known.1)) held in
    (λ told. omega (arith, known.0, count), λ few. refl)
