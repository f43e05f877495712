use Rattle.xrf_message_law.proofs.MessageLaw as law
use Rattle.xrf_message_law.proofs.KeptSlots.{stand-after}
use Rattle.xrf_message_law.proofs.laws.message_law.Goals as goal

pub returns : goal.returns
returns c = record { tables = law.tables; terminals = law.terminals; slots = law.slots; lands = law.lands; lists = law.lists; stand = stand-after }
