-- Of the keys so far no other is left out.
use Rattle.std.proofs.Common.{◌≡◌, Bool, true, false, filter, take}
use Rattle.geom.specs.declared.tile.TileKey.{TileKey}
use Rattle.geom.specs.KeyLists.{has_key}
use Rattle.impl_choice.proofs.hidden.without.Given as goal

abbrev pub invariant-loop-key : goal.invariant-loop-key
invariant-loop-key l = (f : TileKey → Bool) → ((q : TileKey) → has_key l.others q ≡ true → f q ≡ false) → filter f l.left ≡ filter f (take l.key-index l.keys)
