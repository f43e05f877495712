use Rattle.std.proofs.Common.{◌≡◌, ◌+◌, ℕ, List, [], ◌∷◌, ◌++◌, map, drop, ap, sym, ◌∙◌}
use Rattle.std.proofs.lemmas.List.{map_push}
use Rattle.xrf_clt.specs.Kept.{Kept}
use Rattle.xrf_clt.specs.Table.{texts_for}
use Rattle.xrf_report.proofs.Picking.{picked, passed}
use Rattle.xrf_report.proofs.picked.own_lines.Goals.{then-eq+in_ok-push, else-eq}
use Rattle.xrf_report.proofs.picked.own_lines.Goals as goal

pub loop-place-preserved : goal.loop-place-preserved
loop-place-preserved c =
    let clt = c.args.clt.now in
    let place = c.loop-place.place in
    let line : Kept = record { applid = c.line-named.result.0; text = c.line-named.result.1.now } in
    let before = map (λ l. l.now) c.loop-place.own.items in
    elim c.if-eq.branch [
      | then-eq+in_ok-push w ↦
          let items = ap (λ own. own.items) w.own-is ∙ w.in_ok-push.ensures.items in
          let texts : map (λ l. l.now) c.if-eq.own.items ≡ before ++ line.text ∷ [] =
          ap (map (λ l. l.now)) items ∙ map_push (λ l. l.now) c.loop-place.own.items c.line-named.result.1 in
          ap (λ (own : List (List ℕ)). own ++ texts_for c.args.applid (drop (place + 1) clt)) texts
          ∙ picked c.args.applid clt place line before c.line-named.ensures (sym c.eq.ensures ∙ w.if-eq.true) c.loop-place.invariant
      | else-eq w ↦
          ap (λ own. map (λ l. l.now) own.items ++ texts_for c.args.applid (drop (place + 1) clt)) w.own-is
          ∙ passed c.args.applid clt place line before c.line-named.ensures (sym c.eq.ensures ∙ w.if-eq.false) c.loop-place.invariant
    ]
