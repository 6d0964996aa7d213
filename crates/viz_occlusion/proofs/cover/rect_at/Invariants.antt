-- None of the rects so far covers the point.
use Rattle.std.specs.Prelude.{◌≡◌, false, take}
use Rattle.region.specs.Points.{covered}
use Rattle.viz_occlusion.proofs.cover.rect_at.Given as given

abbrev pub invariant-loop-rect : given.invariant-loop-rect
invariant-loop-rect l = covered (take l.rect-index l.cover) l.x l.y ≡ false
