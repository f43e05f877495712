use Rattle.xrf_conduct_law.proofs.JobsLaw as jobs
use Rattle.xrf_conduct_law.proofs.ReserveLaw as reserve
use Rattle.xrf_conduct_law.proofs.PurposeLaw as purpose
use Rattle.xrf_conduct_law.proofs.LinesLaw as lines
use Rattle.xrf_conduct_law.proofs.RoundsLaw as rounds
use Rattle.xrf_conduct_law.proofs.DecidesLaw as decides
use Rattle.xrf_conduct_law.proofs.StopsLaw as stops
use Rattle.xrf_conduct_law.proofs.ItemsLaw as items
use Rattle.xrf_conduct_law.proofs.RestLaw as rest
use Rattle.xrf_conduct_law.proofs.CutsLaw as cuts
use Rattle.xrf_conduct_law.proofs.ToldLaw as told
use Rattle.xrf_conduct_law.proofs.WorksLaw as works
use Rattle.xrf_conduct_law.proofs.laws.conduct_law.Goals as goal

pub returns : goal.returns
returns c = record {
  jobs_act = λ s t ranges is few. jobs.jobs-act s t is;
  reserve_is_held = λ s t ranges is few. reserve.reserve-is-held s t is;
  by_purpose = λ s t ranges is few. purpose.by-purpose s t is;
  lines_as_listed = λ s t ranges is few. lines.lines-as-listed s t is;
  rounds_are_whole = λ s t ranges is few. rounds.rounds-are-whole s t is;
  owners_decide = λ s t ranges is few. decides.owners-decide s t is;
  stops_when_due = λ s t ranges is few. stops.stops-when-due s t is;
  items_in_order = items.items-in-order;
  book_at_rest = rest.book-at-rest;
  cuts_as_may = λ s t ranges is few. cuts.cuts-as-may s t is;
  commands_are_told = λ s t ranges is few. told.commands-are-told s t is;
  works_as_due = works.works-as-due;
}
