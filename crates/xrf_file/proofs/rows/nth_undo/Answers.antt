-- Each put is passed over or counted, and one is found before the puts end.
use Rattle.std.proofs.Common.{◌≡◌, ◌-◌, ◌+◌, ◌≢◌, true, false, [], length, reverse, take, arith, ap, sym, ◌∙◌, get_or}
use Rattle.std.specs.Prelude.{slice_get}
use Rattle.xrf_logrec.specs.LogRecords.{same_unit}
use Rattle.xrf_file.specs.declared.rows.LoggedPut.{LoggedPut}
use Rattle.xrf_file.specs.Rows.{undo_of}
use Rattle.xrf_file.proofs.Undoing.{walk-other, walk-own, walk-end}
use Rattle.xrf_file.proofs.rows.nth_undo.Goals as goal
use Rattle.xrf_file.proofs.rows.nth_undo.Goals.{then-is_same+else-left-eq0, else-is_same}

no_put : LoggedPut
no_put = record { unit = record { inc = 0; serial = 0 }; number = 0; undo = record { rrn = 0; before = [] } }

pub loop-i-preserved : goal.loop-i-preserved
unfolding no_put
loop-i-preserved c =
    let wanted = slice_get (undo_of c.args.unit (reverse c.args.puts.now)) c.args.k in
    elim c.if-is_same.branch [
      | then-is_same+else-left-eq0 w ↦
          let own : same_unit (get_or c.args.puts.now (length c.args.puts.now - 1 - c.loop-i.i) no_put).unit c.args.unit ≡ true = sym c.is_same.ensures ∙ w.if-is_same.true in
          let more : c.loop-i.left ≢ 0 = omega (arith, w.if-left-eq0.false) in
          ap (slice_get (undo_of c.args.unit (reverse (take (length c.args.puts.now - (c.loop-i.i + 1)) c.args.puts.now)))) w.left-is
          ∙ walk-own c.args.unit c.args.puts.now c.loop-i.i c.loop-i.left no_put wanted c.loop-i-test.true more own c.loop-i.invariant
      | else-is_same w ↦
          let other : same_unit (get_or c.args.puts.now (length c.args.puts.now - 1 - c.loop-i.i) no_put).unit c.args.unit ≡ false = sym c.is_same.ensures ∙ w.if-is_same.false in
          ap (slice_get (undo_of c.args.unit (reverse (take (length c.args.puts.now - (c.loop-i.i + 1)) c.args.puts.now)))) w.left-is
          ∙ walk-other c.args.unit c.args.puts.now c.loop-i.i c.loop-i.left no_put wanted c.loop-i-test.true other c.loop-i.invariant
    ]

pub unreachable-requires : goal.unreachable-requires
unreachable-requires c = walk-end c.args.unit c.args.puts.now c.loop-i.i c.loop-i.left (undo_of c.args.unit (reverse c.args.puts.now)) c.args.k c.loop-i-test.false c.requires c.loop-i.invariant
