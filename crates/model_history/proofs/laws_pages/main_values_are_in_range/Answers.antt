use Rattle.model_history.proofs.PageRanges.{page_in_range, page_has_later}
use Rattle.model_history.proofs.laws_pages.main_values_are_in_range.Goals as goal

pub returns : goal.returns
returns c = record { values = page_in_range; scrollers = page_has_later }
