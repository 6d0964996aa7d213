-- The rects so far, moved and cut.
use Rattle.std.proofs.Common.{◌≡◌, ℤ, ◌-ℤ◌, ◌&&◌, take}
use Rattle.geom.specs.Covers.{covers}
use Rattle.region.specs.Points.{covered}
use Rattle.cc.proofs.edits.moved_into.Given as goal

abbrev pub invariant-loop-rect : goal.invariant-loop-rect
invariant-loop-rect l = (x y : ℤ) → covered l.moved x y ≡ (covered (take l.rect-index l.rects) (x -ℤ l.by.x) (y -ℤ l.by.y) && covers l.area x y)
