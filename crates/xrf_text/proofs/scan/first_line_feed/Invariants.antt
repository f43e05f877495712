use Rattle.std.proofs.Common.{◌≡◌, ◌≤◌, ◌+◌, ◌-◌, length, drop}
use Rattle.std.specs.List.{position_or_len}
use Rattle.xrf_text.specs.Text.{is_line_feed}
use Rattle.xrf_text.proofs.scan.first_line_feed.Given as goal

abbrev pub invariant-loop-passed : goal.invariant-loop-passed
invariant-loop-passed l = (l.passed ≤ length l.text) × (position_or_len is_line_feed l.text ≡ l.passed + position_or_len is_line_feed (drop l.passed l.text))

abbrev pub decreases-loop-passed : goal.decreases-loop-passed
decreases-loop-passed l = length l.text - l.passed

abbrev pub invariant-loop-passed-2 : goal.invariant-loop-passed-2
invariant-loop-passed-2 l = (l.passed ≤ length l.text) × (position_or_len is_line_feed l.text ≡ l.passed + position_or_len is_line_feed (drop l.passed l.text))

abbrev pub decreases-loop-passed-2 : goal.decreases-loop-passed-2
decreases-loop-passed-2 l = length l.text - l.passed
