-- Those of the keys so far that are not visible.
use Rattle.std.proofs.Common.{◌≡◌, ◌++◌, not, filter, take}
use Rattle.std.specs.Prelude.{option_copied}
use Rattle.tile_priority.specs.declared.rank.Side.TheVariants as side
use Rattle.tile_priority.specs.Choice.{is_visible_rank}
use Rattle.model_history.specs.Tiles.{Tree}
use Rattle.model_history.specs.Ranking.{rank_in}
use Rattle.impl_ranks.specs.SeenTrees.{IsSeenWhere}
use Rattle.impl_choice.proofs.hidden.push_hidden_in.Given as goal

abbrev pub invariant-loop-key : goal.invariant-loop-key
invariant-loop-key l = (t : Tree) → IsSeenWhere t (option_copied l.tree) → l.hidden ≡ l.fn.hidden ++ filter (λ q. not (is_visible_rank (rank_in l.plan side.Active t q))) (take l.key-index l.keys)
