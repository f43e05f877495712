-- As many slots as were counted.
use Rattle.std.proofs.Common.{◌++◌, ◌+◌, ◌*◌, List, ℕ, ap, sym, ◌∙◌, length, arith}
use Rattle.xrf_gated.specs.Slots.{bytes_of}
use Rattle.xrf_gated.specs.declared.gated.Slot.{Slot}
use Rattle.xrf_report.specs.Images.{slot_lines}
use Rattle.xrf_report.proofs.ImageLaws.{grown, slots_more, slots_fit}
use Rattle.xrf_report.proofs.images.put_slots.Goals as goal

pub loop-k-preserved : goal.loop-k-preserved
loop-k-preserved g c = record {
  whole = λ slot are.
      grown _ _ _
      (c.in_ok-put_slot.ensures.text
      ∙ ap (λ (bytes : List ℕ). c.loop-k.out.items ++ slot_lines c.args.name.now (c.args.at + 64 * c.loop-k.k) bytes)
      (c.slot.ensures.bytes ∙ ap bytes_of (are c.loop-k.k (omega (arith, c.loop-k-test.true, c.requires.within)))))
      (c.loop-k.invariant.whole slot are) (slots_more c.args.name.now c.args.at slot c.loop-k.k);
  fits = λ slot are.
      slots_fit slot c.loop-k.k (c.loop-k.invariant.fits slot are)
      (ap length (sym (c.slot.ensures.bytes ∙ ap bytes_of (are c.loop-k.k (omega (arith, c.loop-k-test.true, c.requires.within))))) ∙ c.put_slot.ensures.size);
}
