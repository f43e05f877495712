use Rattle.std.proofs.Common.{◌∙◌}
use Rattle.xrf_msg.proofs.MessageLaws.{message_reading-spelled}
use Rattle.xrf_msg.proofs.GivenLaws.{found_is}
use Rattle.xrf_msg.proofs.messages.Message.read.Goals as goal

pub returns-clause-found : goal.returns-clause-found
returns-clause-found c = found_is c.args.body.now c.reading.result c.fits-body c.reading.ensures

pub returns-clause-only : goal.returns-clause-only
returns-clause-only c message is = c.reading.ensures ∙ message_reading-spelled c.args.body.now message is
