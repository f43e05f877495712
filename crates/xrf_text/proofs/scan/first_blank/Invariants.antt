use Rattle.std.proofs.Common.{◌≡◌, ◌≤◌, ◌+◌, ◌-◌, length, drop}
use Rattle.std.specs.List.{position_or_len}
use Rattle.xrf_text.specs.Text.{is_blank}
use Rattle.xrf_text.proofs.scan.first_blank.Given as goal

abbrev pub invariant-loop-passed : goal.invariant-loop-passed
invariant-loop-passed l = (l.passed ≤ length l.line) × (position_or_len is_blank l.line ≡ l.passed + position_or_len is_blank (drop l.passed l.line))

abbrev pub decreases-loop-passed : goal.decreases-loop-passed
decreases-loop-passed l = length l.line - l.passed

abbrev pub invariant-loop-passed-2 : goal.invariant-loop-passed-2
invariant-loop-passed-2 l = (l.passed ≤ length l.line) × (position_or_len is_blank l.line ≡ l.passed + position_or_len is_blank (drop l.passed l.line))

abbrev pub decreases-loop-passed-2 : goal.decreases-loop-passed-2
decreases-loop-passed-2 l = length l.line - l.passed
