use Rattle.std.proofs.Common.{◌≡◌, ◌∙◌, None, ap, sym}
use Rattle.xrf_history.specs.Holding.{number}
use Rattle.xrf_trace.specs.declared.entry.Entry.{Entry}
use Rattle.xrf_trace.specs.declared.entry.Land.TheVariants as land
use Rattle.xrf_trace.specs.Items.{number_of_job}
use Rattle.xrf_trace.specs.Jobs.{hist}
use Rattle.xrf_trace.specs.Scenario.{settings}
use Rattle.xrf_trace.specs.Words.{now, who_at}
use Rattle.xrf_world.specs.Making.{cut_of_want, inc_of_want}
use Rattle.xrf_world.proofs.MadeLaws.{entry_of, entry-same, followed}
use Rattle.xrf_world.proofs.stopping.cut_off.Goals as goal

pub returns : goal.returns
returns c = λ t stands stopped.
    let old = c.args.middle.now in
    let s = old.scenario in
    let x = c.args.site in
    let w = c.args.want.now in
    let cut = c.args.cut.now in
    let new = c.follow.new.self in
    let seat = c.vacate.new.self in
    let kept = c.follow-2.new.self in
    let made : Entry = entry_of old.counts.tick c.who_at.result c.inc_of_want.result c.cut_of_want.result (land.Stop cut) in
    let incs : c.inc_of_want.result ≡ inc_of_want w (number stopped.job) =
    c.inc_of_want.ensures ∙ ap (inc_of_want w) (c.inc.ensures (settings s x) (hist s t x) stands.place.seat ∙ ap number_of_job stopped.there) in
    let same : made ≡ stopped.entry =
    entry-same old.counts.tick (now t) c.who_at.result (who_at x) c.inc_of_want.result (inc_of_want w (number stopped.job)) c.cut_of_want.result (cut_of_want w)
    (land.Stop cut) stands.middle.counts.tick c.who_at.ensures incs c.cut_of_want.ensures
    ∙ stopped.is_entry in (
      stopped.entry,
      stopped.is,
      ap (λ (e : Entry). e.who) (sym stopped.is_entry),
      c.follow.ensures.scenario,
      followed old new seat kept t x made stopped.entry None None same c.follow.ensures.scenario stopped.records stopped.after
          (c.vacate.ensures (settings s x) (hist s t x) stands.place.seat) (c.follow.ensures.stands t stands.middle) (c.follow-2.ensures s t x stands.place.kept),
    )
