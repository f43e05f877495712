use Rattle.xrf_trace.proofs.BookLaws as laws
use Rattle.xrf_trace.proofs.laws.books_are_at_each.Goals as goal

pub returns : goal.returns
returns c = λ s t. (laws.at_each_record s t, laws.as_one s t)
