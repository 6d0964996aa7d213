-- The keys of the places so far were added.
use Rattle.std.proofs.Common.{◌≡◌, ◌++◌, map, take}
use Rattle.tile_visible.specs.Visible.{key_at}
use Rattle.tile_visible.proofs.visible.push_keys.Given as goal

abbrev pub invariant-loop-place : goal.invariant-loop-place
invariant-loop-place l = l.keys ≡ l.fn.keys ++ map (key_at (λ _ _. l.stamp) l.layer) (take l.place-index l.places)
