-- The settings are in the ranges of a script.
use Rattle.std.proofs.Common.{rules}
use Rattle.model_history.specs.Ranges.{is_in_ranges}
use Rattle.test_live.proofs.pair.Pair.new.Goals as goal

pub new-requires-2-clause-ranges : goal.new-requires-2-clause-ranges
unfolding is_in_ranges
new-requires-2-clause-ranges c = search rules
