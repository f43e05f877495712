use Rattle.std.proofs.Common.{◌≡◌, ◌≢◌, ◌∙◌, ◌<◌, ◌≤◌, ℕ, List, ◌∷◌, true, length, take, drop, subst, sym, ap, arith}
use Rattle.std.specs.List.{list_all, position_or_len}
use Rattle.xrf_text.specs.Text.{is_blank, is_of_word, words}
use Rattle.xrf_text.proofs.Blocks.{all-blank-over, blanks-over, of_word-at}
use Rattle.xrf_text.proofs.scan.behind_blanks.Goals as goal

pub loop-rest-smaller : goal.loop-rest-smaller
loop-rest-smaller c = let shorter = c.behind_block-rest.ensures.shorter in omega (arith, shorter)

pub loop-rest-preserved : goal.loop-rest-preserved
loop-rest-preserved c =
    let rest = c.loop-rest.rest.now in
    let blank : list_all is_blank (take 32 rest) ≡ true = subst (λ (l : List ℕ). list_all is_blank l ≡ true) c.block_at.ensures (c.is_all_blank.ensures c.if-is_all_blank.true) in
    (ap words c.behind_block-rest.ensures.behind ∙ all-blank-over 32 rest blank ∙ c.loop-rest.invariant.0, omega (arith, c.behind_block-rest.ensures.shorter, c.loop-rest.invariant.1))

pub returns-then-before-lt-BLOCK-clause-same : goal.returns-then-before-lt-BLOCK-clause-same
returns-then-before-lt-BLOCK-clause-same c =
    let place = c.before_word-before.ensures.place ∙ ap (position_or_len is_of_word) c.block_at-then-rest-ge-BLOCK.ensures in
    ap words c.behind.ensures.behind ∙ ap (λ (n : ℕ). words (drop n c.loop-rest.rest.now)) place ∙ blanks-over 32 c.loop-rest.rest.now ∙ c.loop-rest.invariant.0

pub returns-then-before-lt-BLOCK-clause-at_word : goal.returns-then-before-lt-BLOCK-clause-at_word
returns-then-before-lt-BLOCK-clause-at_word c more =
    let rest = c.loop-rest.rest.now in
    let place = c.before_word-before.ensures.place ∙ ap (position_or_len is_of_word) c.block_at-then-rest-ge-BLOCK.ensures in
    let inside : 32 ≤ length rest = omega (arith, c.if-rest-ge-BLOCK.true) in
    let few : position_or_len is_of_word (take 32 rest) < 32 = omega (arith, place, c.if-before-lt-BLOCK.true) in
    subst (λ (l : List ℕ). l ≢ 32 ∷ more) (sym (c.behind.ensures.behind ∙ ap (λ (n : ℕ). drop n rest) place)) (of_word-at 32 rest few inside more)
