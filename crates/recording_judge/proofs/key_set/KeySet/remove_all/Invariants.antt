-- The keys so far are gone.
use Rattle.std.proofs.Common.{◌≡◌, not, ◌&&◌, take}
use Rattle.geom.specs.declared.tile.TileKey.{TileKey}
use Rattle.geom.specs.KeyLists.{has_key}
use Rattle.recording_judge.proofs.key_set.KeySet.remove_all.Given as goal

abbrev pub invariant-loop-key : goal.invariant-loop-key
invariant-loop-key l = (q : TileKey) → has_key l.self q ≡ (has_key l.fn.self q && not (has_key (take l.key-index l.keys) q))
