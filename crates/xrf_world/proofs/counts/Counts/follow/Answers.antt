-- A record whose gate an entry opens joins the log, and nothing else that is counted changes.
use Rattle.std.proofs.Common.{◌≡◌, ◌≤◌, ◌||◌, ℕ, true, false, slice_index_or, sym, subst}
use Rattle.xrf_trace.specs.declared.entry.Act.{Act}
use Rattle.xrf_trace.specs.Landing.{opens}
use Rattle.xrf_trace.specs.Log.{log, log_after}
use Rattle.xrf_trace.specs.Words.{confirmed, confirms, now, tick_after}
use Rattle.xrf_world.specs.Counts.{Joins, JoinsIf, LogIs}
use Rattle.xrf_world.proofs.counts.Counts.follow.Goals as goal

pub returns-in-LogOpen : goal.returns-in-LogOpen
returns-in-LogOpen c = λ s t counts can.
    let e = c.args.entry.now in
    let old = c.args.self.now in
    let is = sym c.in-LogOpen.is in
    let joins : opens e.land ≡ true → Joins s.settings.log (log t) c.in-LogOpen.rec =
    subst (λ (a : Act). JoinsIf s.settings.log (log t) a e.land) c.in-LogOpen.is can.joins in
    record {
      tick = subst (λ (a : Act). old.tick ≡ tick_after a (now t)) is counts.tick;
      confirmed = subst (λ (a : Act). (n : ℕ) → slice_index_or old.confirmed.items n false ≡ (confirms a n || confirmed t n)) is counts.confirmed;
      marks = counts.marks;
      log = subst (λ (a : Act). LogIs c.follow_open.new.self (log_after a e.land (log t))) is
          (c.follow_open.ensures.log s.settings.log (log t) counts.log joins);
      room = subst (λ (n : ℕ). s.settings.log ≤ n) (sym c.follow_open.ensures.capacity) counts.room;
    }
