use Rattle.std.proofs.Common.{◌∙◌, sym, ap}
use Rattle.xrf_world.specs.Seats.{seen_after, read_after}
use Rattle.xrf_world.proofs.SeatLaws.{event_sees, event_reads}
use Rattle.xrf_world.proofs.seat.Seat.take.Goals as goal

pub returns-clause-seat : goal.returns-clause-seat
returns-clause-seat c = λ p h seat may.
    let a = c.args.answer.now in
    record {
      settings = seat.settings;
      job = c.take.ensures.stands p h seat.job may;
      seen = c.see.ensures ∙ ap (seen_after a) seat.seen ∙ sym (event_sees p h a);
      has_read = c.read_after-self.ensures ∙ ap (read_after a) seat.has_read ∙ sym (event_reads p h a);
    }
