use Rattle.std.proofs.Common.{◌≡◌, ◌∙◌, ap, refl, subst, sym}
use Rattle.xrf_history.specs.Holding.{number}
use Rattle.xrf_trace.specs.declared.entry.Entry.{Entry}
use Rattle.xrf_trace.specs.declared.entry.Land.TheVariants as land
use Rattle.xrf_trace.specs.Items.{number_of_job}
use Rattle.xrf_trace.specs.Jobs.{hist}
use Rattle.xrf_trace.specs.Scenario.{settings}
use Rattle.xrf_trace.specs.Words.{now, who_at}
use Rattle.xrf_world.specs.Making.{CanFollow}
use Rattle.xrf_world.proofs.MadeLaws.{entry_of, entry-same}
use Rattle.xrf_world.proofs.reaching.reach.Goals as goal

pub follow-requires : goal.follow-requires
follow-requires c =
    let s = c.args.middle.now.scenario in
    let x = c.args.site in
    let t = c.requires.0 in
    let stands = c.requires.2 in
    let reached = c.requires.3 in
    let incs : c.inc.result ≡ number reached.job = c.inc.ensures (settings s x) (hist s t x) stands.place.seat ∙ ap number_of_job reached.there in
    let same : entry_of c.args.middle.now.counts.tick c.who_at.result c.inc.result c.args.act land.Full ≡ reached.entry =
    entry-same c.args.middle.now.counts.tick (now t) c.who_at.result (who_at x) c.inc.result (number reached.job) c.args.act c.args.act land.Full
    stands.middle.counts.tick c.who_at.ensures incs refl
    ∙ reached.is_entry in
    (t, stands.middle, subst (λ (e : Entry). CanFollow s t e) (sym same) reached.records.follow)
