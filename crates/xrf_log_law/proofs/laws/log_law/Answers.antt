use Rattle.xrf_log_law.proofs.LogLaw as law
use Rattle.xrf_log_law.proofs.laws.log_law.Goals as goal

pub returns : goal.returns
returns c = record {
  file_is_book = law.file-is-book;
  units_are_items = law.units-are-items;
  items_see_book = law.items-see-book;
  jobs_answer_alike = law.jobs-answer-alike;
  ledgers_agree = law.ledgers-agree;
  data_sets_stand = law.data-sets-stand;
  world_conditions = law.conditions-are-met;
}
