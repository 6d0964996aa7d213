-- The ranks of the keys so far.
use Rattle.std.proofs.Common.{◌≡◌, filter_map, take}
use Rattle.std.specs.Prelude.{option_copied}
use Rattle.model_history.specs.Tiles.{Tree}
use Rattle.model_steps.specs.Choices.{rank_in_both}
use Rattle.impl_ranks.specs.SeenTrees.{IsSeenWhere}
use Rattle.impl_choice.proofs.foreseen.ranks_of.Given as goal

abbrev pub invariant-loop-key : goal.invariant-loop-key
invariant-loop-key l = (a p : Tree) → IsSeenWhere a (option_copied l.active) → IsSeenWhere p (option_copied l.pending) → l.ranks.items ≡ filter_map (rank_in_both l.plan a p) (take l.key-index l.keys)
