-- Those of the keys so far.
use Rattle.std.proofs.Common.{◌≡◌, not, filter, take}
use Rattle.geom.specs.KeyLists.{has_key}
use Rattle.model_history.specs.Tiles.{Tree, keys_of}
use Rattle.impl_ranks.specs.SeenTrees.{IsSeenTree}
use Rattle.recording_judge.proofs.tile_keys.dead_of.Given as goal

abbrev pub invariant-loop-key : goal.invariant-loop-key
invariant-loop-key l = (t : Tree) → IsSeenTree t l.tree → l.dead ≡ filter (λ q. not (has_key (keys_of t) q)) (take l.key-index l.keys)
