-- The keys that the workers so far hold.
use Rattle.std.proofs.Common.{◌≡◌, take}
use Rattle.recording_judge.specs.inner.Tiles.{held_keys}
use Rattle.recording_judge.proofs.tile_keys.keys_held.Given as goal

abbrev pub invariant-loop-one : goal.invariant-loop-one
invariant-loop-one l = l.keys ≡ held_keys (take l.one-index l.held)
