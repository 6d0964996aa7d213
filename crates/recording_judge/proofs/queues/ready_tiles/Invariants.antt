-- The tiles of the keys so far.
use Rattle.std.proofs.Common.{◌≡◌, map, take}
use Rattle.std.specs.Prelude.{option_copied}
use Rattle.model_history.specs.Tiles.{Tree}
use Rattle.model_steps.specs.Choices.{tile_in_both}
use Rattle.impl_ranks.specs.SeenTrees.{IsSeenWhere}
use Rattle.recording_judge.proofs.queues.ready_tiles.Given as goal

abbrev pub invariant-loop-key : goal.invariant-loop-key
invariant-loop-key l = (a p : Tree) → IsSeenWhere a (option_copied l.active) → IsSeenWhere p (option_copied l.pending) → l.ready.items ≡ map (tile_in_both l.plan a p l.pins) (take l.key-index l.keys)
