use Rattle.std.proofs.Common.{◌≡◌, ◌≤◌, ◌++◌, length, take}
use Rattle.xrf_text.specs.Text.{words, texts}
use Rattle.xrf_text.proofs.line_words.LineWords.split.Given as goal

abbrev pub invariant-loop-word : goal.invariant-loop-word
invariant-loop-word l =
    (l.count ≤ 8) × (length l.self-inside.words ≡ 8) × (texts (take l.count l.self-inside.words) ++ words l.rest ≡ words l.line) × (l.self-inside.count ≤ 8)

abbrev pub decreases-loop-word : goal.decreases-loop-word
decreases-loop-word l = length l.rest
