-- The tiles of the keys so far that are not visible.
use Rattle.std.proofs.Common.{◌≡◌, map, filter, take}
use Rattle.std.specs.Prelude.{option_copied}
use Rattle.model_history.specs.Tiles.{Tree}
use Rattle.model_steps.specs.Choices.{tile_in_both}
use Rattle.impl_ranks.specs.SeenTrees.{IsSeenWhere}
use Rattle.impl_tiles.specs.Visible.{is_hidden}
use Rattle.impl_choice.proofs.hidden.hidden_tiles.Given as goal

abbrev pub invariant-loop-key : goal.invariant-loop-key
invariant-loop-key l = (a p : Tree) → IsSeenWhere a (option_copied l.active) → IsSeenWhere p (option_copied l.pending) → l.tiles.items ≡ filter is_hidden (map (tile_in_both l.plan a p l.manager.pinned) (take l.key-index l.keys))
