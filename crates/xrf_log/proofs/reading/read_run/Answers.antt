-- A slot without a record ends the run, and a record is one step of it.
use Rattle.std.proofs.Common.{arith, ap, sym, ◌∙◌, ◌≡◌, ◌+◌, ◌-◌, suc, length}
use Rattle.xrf_gated.specs.Slots.{slot_in}
use Rattle.xrf_log.specs.Taken.{Records}
use Rattle.xrf_log.proofs.Runs.{run_of-none, run_of-step}
use Rattle.xrf_log.proofs.reading.read_run.Goals as goal

pub returns-in-None-clause-list : goal.returns-in-None-clause-list
returns-in-None-clause-list c =
    let more : c.args.reach - c.loop-i.i ≡ suc (c.args.reach - (c.loop-i.i + 1)) = omega arith in
    sym (run_of-none (slot_in c.args.block.now) (c.args.reach - c.loop-i.i) (c.args.reach - (c.loop-i.i + 1)) (c.args.place + c.loop-i.i) (c.args.next + c.loop-i.i) c.loop-i.taken.list more (sym c.in-None.ensures))
    ∙ c.loop-i.invariant.0

pub loop-i-preserved : goal.loop-i-preserved
loop-i-preserved c =
    let grown = ap (λ (r : Records). r.list) c.push.ensures in (
      run_of-step (slot_in c.args.block.now) c.args.reach c.loop-i.i c.args.place c.args.next c.loop-i.taken.list c.push.new.self.list c.in-Some.rec (omega arith) (sym c.in-Some.ensures) grown
          ∙ c.loop-i.invariant.0,
      ap (λ (r : Records). r.most) c.push.ensures ∙ c.loop-i.invariant.1,
      omega (arith, ap length grown, c.loop-i.invariant.2),
    )
