-- A record whose gate is opened joins the log.
use Rattle.std.proofs.Common.{◌≡◌, Bool, true, if◌then◌else◌, List, ◌∷◌, ap, sym, subst, ◌∙◌}
use Rattle.xrf_logrec.specs.declared.records.LogRec.{LogRec as Rec}
use Rattle.xrf_trace.specs.Landing.{opens}
use Rattle.xrf_world.specs.Counts.{LogIs}
use Rattle.xrf_world.proofs.log_count.LogCount.follow_open.Goals as goal

pub returns-then-opens-clause-log : goal.returns-then-opens-clause-log
returns-then-opens-clause-log c = λ slots records is joins.
    let opened : opens c.args.land.now ≡ true = sym c.opens.ensures ∙ c.if-opens.true in
    subst (λ (after : List Rec). LogIs c.join.new.self after)
    (sym (ap (λ (b : Bool). if b then c.args.rec.now ∷ records else records) opened))
    (c.join.ensures.log slots records is (joins opened))
