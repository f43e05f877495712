-- What is planned to be logged waits.
use Rattle.std.proofs.Common.{subst, sym, refl}
use Rattle.xrf_file.specs.Rows.{unit_named}
use Rattle.xrf_file.specs.Ledger.{Ledger, commit_plan, roll_plan, IsPending}
use Rattle.xrf_file.proofs.Planning.{put-pending, commit-pending, roll-pending}
use Rattle.xrf_file.proofs.ledgers.Units.plan.Goals as goal

pub returns-in-Put-clause-pending : goal.returns-in-Put-clause-pending
returns-in-Put-clause-pending c =
    let l = c.args.self.now in
    subst (IsPending l) (sym c.plan_put.ensures) (put-pending l c.in-Put.name c.in-Put.rrn c.in-Put.value (unit_named c.in-Put.name l.units) refl)

pub returns-in-Commit-clause-pending : goal.returns-in-Commit-clause-pending
returns-in-Commit-clause-pending c =
    let l = c.args.self.now in
    let found = unit_named c.in-Commit.name l.units in
    subst (IsPending c.plan_commit.new.self) (sym c.plan_commit.ensures.plan)
    (subst (λ (new : Ledger). IsPending new (commit_plan l found)) (sym c.plan_commit.ensures.after) (commit-pending l c.in-Commit.name found refl))

pub returns-in-Roll-clause-pending : goal.returns-in-Roll-clause-pending
returns-in-Roll-clause-pending c =
    let l = c.args.self.now in
    let found = unit_named c.in-Roll.name l.units in
    subst (IsPending c.plan_roll.new.self) (sym c.plan_roll.ensures.plan)
    (subst (λ (new : Ledger). IsPending new (roll_plan l found)) (sym c.plan_roll.ensures.after) (roll-pending l c.in-Roll.name found refl))
