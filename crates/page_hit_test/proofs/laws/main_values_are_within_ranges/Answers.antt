use Rattle.page_hit_test.proofs.MainValues.{main_within}
use Rattle.page_hit_test.proofs.laws.main_values_are_within_ranges.Goals as goal

pub returns : goal.returns
returns c = main_within
