-- Row k from the end is row k of the puts, newest first.
use Rattle.std.proofs.Common.{arith, ap, sym, subst, ◌∙◌, ◌≡◌, ◌<◌, ◌-◌, ℕ, List, length, reverse, get_or}
use Rattle.std.specs.Prelude.{slice_get}
use Rattle.xrf_logrec.specs.declared.records.LogRec.{LogRec}
use Rattle.xrf_log.specs.Taken.{Records}
use Rattle.xrf_log.specs.Flight.{undo_rows}
use Rattle.xrf_log.proofs.FlightLaws.{row_from_end}
use Rattle.xrf_log.proofs.taken.Taken.undo.Goals as goal

pub returns : goal.returns
returns c =
    let log = ap (λ (kept : Records). kept.list) c.self.view_is in
    let below : c.args.k < length (undo_rows (reverse c.self.inside.records.items)) = subst (λ (l : List LogRec). c.args.k < length (undo_rows l)) (sym log) c.requires in
    let count : c.len.result ≡ length c.self.inside.rows.items = omega (arith, c.len.ensures, c.self.inside.rows.ok.0) in
    let read = c.index.ensures ∙ ap (λ (n : ℕ). get_or c.self.inside.rows.items (n - 1 - c.args.k) c.index.result.now) count in
    ap (λ (l : List LogRec). slice_get (undo_rows l) c.args.k) (sym log)
    ∙ row_from_end (reverse c.self.inside.records.items) c.self.inside.rows.items c.args.k c.index.result.now c.self.invariant.rows below read
