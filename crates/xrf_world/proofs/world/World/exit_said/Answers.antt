use Rattle.std.proofs.Common.{◌≡◌, Some, reverse, sym, subst}
use Rattle.xrf_world.specs.Report.{notice_at}
use Rattle.xrf_world.specs.Runs.{Run}
use Rattle.xrf_world.proofs.WorldLaws.{exit-accepted}
use Rattle.xrf_world.proofs.world.World.exit_said.Goals as goal

pub advance_exit-requires-clause-accepted : goal.advance_exit-requires-clause-accepted
advance_exit-requires-clause-accepted c =
    exit-accepted c.self.inside.pair.middle.scenario (reverse c.self.inside.pair.middle.journal.items) c.args.site c.args.answer c.requires.pending.0
    (subst (λ (r : Run). notice_at r.scenario r.trace c.args.site ≡ Some c.requires.pending.0) (sym c.self.view_is) c.requires.pending.1) c.requires.pending.2
