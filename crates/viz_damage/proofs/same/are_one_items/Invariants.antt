-- The items so far are one.
use Rattle.std.specs.Prelude.{◌≡◌, take}
use Rattle.viz_damage.proofs.same.are_one_items.Given as given

abbrev pub invariant-loop-place : given.invariant-loop-place
invariant-loop-place l = take l.place l.a ≡ take l.place l.b
