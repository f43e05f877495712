use Rattle.std.proofs.Common.{◌≡◌, [], ◌∷◌, None, Some, refl, subst, sym}
use Rattle.xrf_trace.specs.declared.entry.Entry.{Entry}
use Rattle.xrf_trace.specs.declared.entry.Land.TheVariants as land
use Rattle.xrf_trace.specs.Entries.{start_at}
use Rattle.xrf_trace.specs.Words.{now, who_at}
use Rattle.xrf_world.specs.Making.{CanFollow}
use Rattle.xrf_world.proofs.MadeLaws.{entry_of, entry-same, followed}
use Rattle.xrf_world.proofs.starting.add_start.Goals as goal

pub follow-requires : goal.follow-requires
follow-requires c =
    let s = c.args.middle.now.scenario in
    let x = c.args.site in
    let a = c.args.act in
    let t = c.requires.0 in
    let same : entry_of c.args.middle.now.counts.tick c.who_at.result 0 a land.Full ≡ start_at t x a =
    entry-same c.args.middle.now.counts.tick (now t) c.who_at.result (who_at x) 0 0 a a land.Full c.requires.4.counts.tick c.who_at.ensures refl refl in
    (t, c.requires.4, subst (λ (e : Entry). CanFollow s t e) (sym same) c.requires.3.records.follow)

pub returns : goal.returns
returns c = λ t made chosen started stands keeps seated.
    let old = c.args.middle.now in
    let s = old.scenario in
    let x = c.args.site in
    let a = c.args.act in
    let e : Entry = start_at t x a in
    let entry : Entry = entry_of old.counts.tick c.who_at.result 0 a land.Full in
    let same : entry ≡ e =
    entry-same old.counts.tick (now t) c.who_at.result (who_at x) 0 0 a a land.Full stands.counts.tick c.who_at.ensures refl refl in (
      e,
      started.is,
      refl,
      c.follow.ensures.scenario,
      followed old c.follow.new.self c.args.place.now.seat c.follow-2.new.self t x entry e None (Some (made ∷ [])) same c.follow.ensures.scenario started.records
          started.after seated (c.follow.ensures.stands t stands) (c.follow-2.ensures s t x keeps),
    )
