use Rattle.xrf_progress.proofs.Coming as coming
use Rattle.xrf_progress.proofs.Stays as stays
use Rattle.xrf_progress.proofs.laws.alternates_stay.Goals as goal

pub returns : goal.returns
returns c = record { named = stays.alternates-stay; resting = coming.who-rests-stays }
