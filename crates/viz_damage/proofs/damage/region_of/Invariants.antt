-- The region covers what the rects so far cover.
use Rattle.std.specs.Prelude.{◌≡◌, ℤ, take}
use Rattle.region.specs.Points.{covered}
use Rattle.viz_damage.proofs.damage.region_of.Given as given

abbrev pub invariant-loop-rect : given.invariant-loop-rect
invariant-loop-rect l = (x y : ℤ) → covered l.region x y ≡ covered (take l.rect-index l.rects) x y
