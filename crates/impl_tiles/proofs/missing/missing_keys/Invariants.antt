-- The missing ones of the keys so far.
use Rattle.std.proofs.Common.{◌≡◌, filter, take}
use Rattle.impl_tiles.specs.Choices.{store_lacks}
use Rattle.impl_tiles.proofs.missing.missing_keys.Given as goal

abbrev pub invariant-loop-key : goal.invariant-loop-key
invariant-loop-key l = l.missing ≡ filter (store_lacks l.store) (take l.key-index l.keys)
