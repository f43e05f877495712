use Rattle.xrf_msg.proofs.GivenLaws.{only_given}
use Rattle.xrf_msg.proofs.reader.Reader.take.Goals as goal

pub returns-then-is_some-clause-only : goal.returns-then-is_some-clause-only
returns-then-is_some-clause-only c =
    only_given c.args.slot.now c.args.self.now.epoch c.args.self.now.expected c.given_by-message.result c.fits-slot c.given_by-message.ensures

pub returns-else-is_some-clause-only : goal.returns-else-is_some-clause-only
returns-else-is_some-clause-only c =
    only_given c.args.slot.now c.args.self.now.epoch c.args.self.now.expected c.given_by-message.result c.fits-slot c.given_by-message.ensures
