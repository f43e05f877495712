use Rattle.xrf_progress.proofs.Pauses as pauses
use Rattle.xrf_progress.proofs.laws.owners_give_way.Goals as goal

pub returns : goal.returns
returns c = record { seen = pauses.takeovers-are-seen; sign_offs = pauses.sign-offs-follow }
