use Rattle.std.proofs.Common.{◌≡◌, true, ap, ◌∙◌}
use Rattle.xrf_grammar.specs.Hex.{is_hex}
use Rattle.xrf_setup.specs.Torn.{torn_of}
use Rattle.xrf_grammar.specs.Filling.{front_of}
use Rattle.xrf_grammar.proofs.Filling.{torn_law}
use Rattle.xrf_grammar.proofs.hex.read_hex.Goals as goal

pub returns : goal.returns
returns c =
    let same = c.spells_hex.ensures in
    let holds = c.if-not-spells_hex.false in
    let is : is_hex c.args.text.now ≡ true = cc in
    c.new.ensures ∙ ap torn_of (c.front.ensures ∙ ap front_of c.fill_all.ensures) ∙ torn_law c.args.text.now is
