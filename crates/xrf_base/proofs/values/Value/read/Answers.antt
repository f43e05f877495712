use Rattle.std.proofs.Common.{◌≡◌, length, take, ap, sym, ◌∙◌, refl, rules}
use Rattle.xrf_base.specs.Padding.{padded, take-padded}
use Rattle.xrf_base.proofs.values.Value.read.Goals as goal

pub invariant_of-result : goal.invariant_of-result
invariant_of-result c =
    let front : take (length c.args.text.now) c.padded_array.result ≡ c.args.text.now = rw c.padded_array.ensures (take-padded 24 c.args.text.now) in
    (search rules, c.padded_array.ensures ∙ ap (padded 24) (sym front), rw front (sym c.spells_value.ensures ∙ c.if-not-spells_value.false))

pub returns : goal.returns
returns c =
    let front : take (length c.args.text.now) c.padded_array.result ≡ c.args.text.now = rw c.padded_array.ensures (take-padded 24 c.args.text.now) in
    rw (front, sym (c.spells_value.ensures) ∙ c.if-not-spells_value.false) refl
