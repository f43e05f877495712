use Rattle.std.proofs.Common.{◌≡◌, ap, subst, ◌∙◌}
use Rattle.xrf_ctl.specs.Places.{laid_at}
use Rattle.xrf_ctl.specs.Control.{IsControl}
use Rattle.xrf_ctl.specs.Layout.{control_bytes}
use Rattle.xrf_ctl.proofs.Spelling.{laid_in_turn}
use Rattle.xrf_ctl.proofs.control.Control.write.Goals as goal

pub returns : goal.returns
returns c =
    let fields = c.self.inside in
    let laid = laid_in_turn fields.format fields.last fields.owner fields.alt fields.taking _ _ _ _ _ _
    c.lay.ensures c.lay_u16.ensures c.lay_u32.ensures
    (subst (λ f. c.lay-2.new.bytes ≡ laid_at c.lay_u32.new.bytes 12 f) c.owner_field.ensures c.lay-2.ensures)
    (subst (λ f. c.lay-3.new.bytes ≡ laid_at c.lay-2.new.bytes 20 f) c.alt_field.ensures c.lay-3.ensures)
    (subst (λ f. c.lay-4.new.bytes ≡ laid_at c.lay-3.new.bytes 28 f) c.taking_field.ensures c.lay-4.ensures) in
    (subst IsControl c.self.view_is c.self.invariant, laid ∙ ap control_bytes c.self.view_is)
