use Rattle.std.proofs.Common.{◌≡◌, ◌++◌}
use Rattle.xrf_report.specs.Items.{items_text}
use Rattle.xrf_report.specs.ReportFits.{ItemsFit}
use Rattle.xrf_report.proofs.reporting.put_taken.Given as goal

-- as many items as were counted
abbrev pub invariant-loop-k : goal.invariant-loop-k
invariant-loop-k l = record {
  whole : l.out.items ≡ l.fn.out.items ++ items_text l.world.scenario l.world.trace l.site l.k;
  fits : ItemsFit l.world.scenario l.world.trace l.site l.k;
}
