use Rattle.std.proofs.Common.{◌≡◌, ◌∙◌, sym, ap, ℕ, ◌+◌, true, arith}
use Rattle.xrf_logrec.specs.declared.records.LogRec.TheVariants.{Backout}
use Rattle.xrf_log.specs.Scan.{Scanned, next_of}
use Rattle.xrf_history.specs.Restarting.{scan, next_record}
use Rattle.xrf_history.specs.Rows.{log_write}
use Rattle.xrf_job.proofs.Counts.{opened-few}
use Rattle.xrf_active.proofs.Granting.{granted-above}
use Rattle.xrf_active.proofs.Small.{scan-small}
use Rattle.xrf_active.proofs.Undoing.{undo-at, unit-at, undone-past, undo-next, backout-next, backout-hand}
use Rattle.xrf_active.proofs.active.Active.restart_due.Goals as goal

pub returns-then-undone-undo_count-clause-act : goal.returns-then-undone-undo_count-clause-act
returns-then-undone-undo_count-clause-act c = λ h s.
    let p = c.args.self.now.settings in
    let over : (scan p h).ended ≡ true = cc (s.scanned) in
    undo-next p h c.undo.result over (undo-at p h c.args.self.now.rooms.scan c.args.self.now.undone c.undo.result s.takes s.undoes c.undo.ensures)

pub overflow_add-result : goal.overflow_add-result
overflow_add-result c =
    let h = c.requires.stands.0 in
    let s = c.requires.stands.1 in
    let few = opened-few h in
    let small = scan-small c.args.self.now.settings h s.small in
    let start : c.args.self.now.rooms.scan.anchor.start ≡ (scan c.args.self.now.settings h).anchor.start = ap (λ (x : Scanned). x.anchor.start) s.takes in
    omega (arith, s.opens, s.rooms.scan, s.rooms.sizes.log_most, c.requires.stands.2)

pub returns-then-opened-flight_count-clause-act : goal.returns-then-opened-flight_count-clause-act
returns-then-opened-flight_count-clause-act c = λ h s.
    let p = c.args.self.now.settings in
    let over : (scan p h).ended ≡ true = cc (s.scanned) in
    let running = sym s.restarted ∙ c.requires.restarts in
    let place : c.next.result + c.args.self.now.opened ≡ next_record p h = ap (λ (n : ℕ). n + c.args.self.now.opened) (c.next.ensures.next ∙ ap next_of s.takes) ∙ ap (λ (n : ℕ). next_of (scan p h) + n) s.opens in
    ap (λ (n : ℕ). log_write p n (Backout c.flight-unit.result)) place
    ∙ backout-next p h c.flight-unit.result over (undone-past p h c.args.self.now.rooms.scan c.args.self.now.undone s.takes s.undoes (omega arith)) (s.backs_out running)
    (unit-at p h c.args.self.now.rooms.scan c.args.self.now.opened c.flight-unit.result s.takes s.opens c.flight-unit.ensures)

pub returns-then-opened-flight_count-clause-begins : goal.returns-then-opened-flight_count-clause-begins
returns-then-opened-flight_count-clause-begins c = λ h s.
    let p = c.args.self.now.settings in
    let over : (scan p h).ended ≡ true = cc (s.scanned) in
    let running = sym s.restarted ∙ c.requires.restarts in
    backout-hand p h c.flight-unit.result (granted-above h c.args.self.now.common.inc s.shared.granted s.shared.inc c.requires.inc) running over (s.backs_out running)
    (unit-at p h c.args.self.now.rooms.scan c.args.self.now.opened c.flight-unit.result s.takes s.opens c.flight-unit.ensures)
