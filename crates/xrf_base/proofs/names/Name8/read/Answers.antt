use Rattle.std.proofs.Common.{◌≡◌, length, take, ap, sym, ◌∙◌, refl, rules}
use Rattle.xrf_base.specs.Padding.{padded, take-padded}
use Rattle.xrf_base.proofs.names.Name8.read.Goals as goal

pub invariant_of-result : goal.invariant_of-result
invariant_of-result c =
    let front : take (length c.args.text.now) c.padded_array.result ≡ c.args.text.now = rw c.padded_array.ensures (take-padded 8 c.args.text.now) in
    (search rules, c.padded_array.ensures ∙ ap (padded 8) (sym front), rw front (sym c.spells_name.ensures ∙ c.if-not-spells_name.false))

pub returns : goal.returns
returns c =
    let front : take (length c.args.text.now) c.padded_array.result ≡ c.args.text.now = rw c.padded_array.ensures (take-padded 8 c.args.text.now) in
    rw (front, sym (c.spells_name.ensures) ∙ c.if-not-spells_name.false) refl
