use Rattle.std.proofs.Common.{◌≡◌, ◌++◌, length, take}
use Rattle.xrf_text.specs.Text.{words}
use Rattle.xrf_clt.specs.Table.{with_blanks}
use Rattle.xrf_clt.proofs.append_words.Given as goal

abbrev pub invariant-loop-word : goal.invariant-loop-word
invariant-loop-word l =
    (l.texts.items ++ with_blanks (words l.rest) ≡ l.fn.texts.items ++ with_blanks (words l.line))
    × (take (length l.fn.texts.items) l.texts.items ≡ l.fn.texts.items)

abbrev pub decreases-loop-word : goal.decreases-loop-word
decreases-loop-word l = length l.rest
