-- If it began at the first key, all keys so far have an image.
use Rattle.std.proofs.Common.{◌≡◌, true, take}
use Rattle.std.specs.List.{list_all}
use Rattle.impl_tiles.specs.Stores.{is_ready}
use Rattle.impl_tiles.proofs.manager.unready_from.Given as goal

abbrev pub invariant-loop-at : goal.invariant-loop-at
invariant-loop-at l = l.from ≡ 0 → list_all (is_ready l.store) (take l.at l.keys) ≡ true
