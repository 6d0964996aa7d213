-- The keys so far are there.
use Rattle.std.proofs.Common.{◌≡◌, take}
use Rattle.geom.specs.declared.tile.TileKey.{TileKey}
use Rattle.geom.specs.KeyLists.{has_key}
use Rattle.recording_judge.proofs.key_set.KeySet.of.Given as goal

abbrev pub invariant-loop-key : goal.invariant-loop-key
invariant-loop-key l = (q : TileKey) → has_key l.set q ≡ has_key (take l.key-index l.keys) q
