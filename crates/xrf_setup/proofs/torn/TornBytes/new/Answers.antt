use Rattle.std.proofs.Common.{◌≡◌, length, take, ap, sym, ◌∙◌, rules, arith}
use Rattle.std.proofs.lemmas.Grind.{common_steps}
use Rattle.xrf_base.specs.Padding.{padded, take-padded}
use Rattle.xrf_setup.specs.declared.ranges.TheConstants.{TORN_MOST}
use Rattle.xrf_setup.proofs.torn.TornBytes.new.Goals as goal

pub invariant_of-result : goal.invariant_of-result
invariant_of-result c =
    let front : take (length c.args.bytes.now) c.padded_array.result ≡ c.args.bytes.now = rw c.padded_array.ensures (take-padded TORN_MOST c.args.bytes.now) in
    (search rules, c.padded_array.ensures ∙ ap (padded TORN_MOST) (sym front), search rules)

pub returns : goal.returns
returns c =
    let front : take (length c.args.bytes.now) c.padded_array.result ≡ c.args.bytes.now = rw c.padded_array.ensures (take-padded TORN_MOST c.args.bytes.now) in
    rw front (grind (arith, common_steps))
