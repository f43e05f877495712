use Rattle.std.proofs.Common.{◌≡◌, ◌++◌, map, drop}
use Rattle.xrf_clt.specs.Table.{texts_for}
use Rattle.xrf_report.proofs.picked.own_lines.Given as goal

-- those picked so far, and those of the lines left, are all
abbrev pub invariant-loop-place : goal.invariant-loop-place
invariant-loop-place l = map (λ line. line.now) l.own.items ++ texts_for l.applid (drop l.place l.clt) ≡ texts_for l.applid l.clt
