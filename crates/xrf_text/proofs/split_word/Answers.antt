use Rattle.std.proofs.Common.{arith, not, ◌∙◌, sym}
use Rattle.std.proofs.lemmas.List.Sums.{prefix_len-le-length}
use Rattle.xrf_text.proofs.Words.{at_first_blank, cut_word}
use Rattle.xrf_text.specs.Text.{is_blank}
use Rattle.xrf_text.proofs.split_word.Goals as goal

pub split_at-requires : goal.split_at-requires
split_at-requires c =
    omega (arith, at_first_blank _ _ _ c.first_blank.ensures c.unwrap_or-end.ensures, prefix_len-le-length (λ b. not (is_blank b)) c.from_first_word-rest.result.now)

pub returns-clause-first : goal.returns-clause-first
returns-clause-first c =
    (cut_word c.args.line.now c.from_first_word-rest.result.now _ _ _ _ c.from_first_word-rest.ensures.same (sym c.is_empty.ensures ∙ c.if-is_empty.false) c.from_first_word-rest.ensures.at_word c.first_blank.ensures c.unwrap_or-end.ensures c.split_at.ensures.front c.split_at.ensures.back).0

pub returns-clause-shorter : goal.returns-clause-shorter
returns-clause-shorter c =
    let shorter = (cut_word c.args.line.now c.from_first_word-rest.result.now _ _ _ _ c.from_first_word-rest.ensures.same (sym c.is_empty.ensures ∙ c.if-is_empty.false) c.from_first_word-rest.ensures.at_word c.first_blank.ensures c.unwrap_or-end.ensures c.split_at.ensures.front c.split_at.ensures.back).1 in
    omega (arith, shorter)
