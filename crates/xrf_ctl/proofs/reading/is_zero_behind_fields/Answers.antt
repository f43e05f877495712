use Rattle.std.proofs.Common.{◌≡◌, ℕ, List, length, drop, replicate, sym, ap, ◌∙◌, arith, length-drop}
use Rattle.std.proofs.lemmas.List.{take_all}
use Rattle.xrf_base.specs.Zeros.{are_zeros}
use Rattle.xrf_base.proofs.Tails.{is_replicate}
use Rattle.xrf_ctl.proofs.reading.is_zero_behind_fields.Goals as goal

pub returns : goal.returns
returns c =
    let rest : List ℕ = drop 36 c.args.bytes.now in
    let count : length rest ≡ 220 = omega (arith, length-drop 36 c.args.bytes.now, c.told-bytes) in
    let all = take_all 220 rest (omega (arith, count)) in (
      λ zero. all ∙ is_replicate 0 rest (sym c.is_zero_from.ensures ∙ zero) ∙ ap (λ (n : ℕ). replicate n 0) count,
      λ same. c.is_zero_from.ensures ∙ ap are_zeros (sym all ∙ same),
    )
