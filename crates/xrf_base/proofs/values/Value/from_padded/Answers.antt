use Rattle.std.proofs.Common.{◌≡◌, true, false, Some, length, take, refl, sym, ◌∙◌, ap, subst, arith}
use Rattle.xrf_base.specs.Padding.{padded}
use Rattle.xrf_base.specs.Values.{IsValue, padded_value}
use Rattle.xrf_base.proofs.SlotLaws.{front_is, text_shorter, is_padded, padded_value-is}
use Rattle.xrf_base.proofs.values.Value.from_padded.Goals as goal
use Rattle.xrf_base.proofs.values.Value.from_padded.Goals.{else-spells_value-via-then-spells_value+else-is_blank_from, else-spells_value-via-else-spells_value}

pub invariant_of-result : goal.invariant_of-result
invariant_of-result c =
    let field = c.args.field.now in
    let text = c.before_blank-text.result.now in
    let is = c.before_blank-text.ensures in
    let front : take (length text) field ≡ text = front_is field text is in
    let few = text_shorter field text is in (
      omega (arith, few, c.told-field),
      is_padded field text c.told-field is (sym c.is_blank_from.ensures ∙ c.if-is_blank_from.true) ∙ ap (padded 24) (sym front),
      subst IsValue (sym front) (sym c.spells_value.ensures ∙ c.if-spells_value.true),
    )

pub returns-then-is_blank_from : goal.returns-then-is_blank_from
returns-then-is_blank_from c =
    let field = c.args.field.now in
    let text = c.before_blank-text.result.now in
    let is = c.before_blank-text.ensures in
    let passes : padded_value field ≡ Some text =
    padded_value-is field text true true c.told-field is (sym c.if-spells_value.true ∙ c.spells_value.ensures) (sym c.if-is_blank_from.true ∙ c.is_blank_from.ensures) in
    ap Some (front_is field text is) ∙ sym passes

pub returns-else-spells_value : goal.returns-else-spells_value
returns-else-spells_value c =
    let field = c.args.field.now in
    let text = c.before_blank-text.result.now in
    let is = c.before_blank-text.ensures in
    elim c.else-spells_value.branch [
      | else-spells_value-via-then-spells_value+else-is_blank_from w ↦ sym (padded_value-is field text true false c.told-field is (sym w.if-spells_value.true ∙ c.spells_value.ensures) (sym w.if-is_blank_from.false ∙ w.is_blank_from.ensures))
      | else-spells_value-via-else-spells_value w ↦ sym (padded_value-is field text false _ c.told-field is (sym w.if-spells_value.false ∙ c.spells_value.ensures) refl)
    ]
