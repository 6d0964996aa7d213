-- The parts of the rects before this one are written, as many as fit.
use Rattle.std.specs.Prelude.{◌≡◌, ◌≤◌, take, length}
use Rattle.cc_c.specs.Damages.{parts_in, written}
use Rattle.cc_c.proofs.damage.told_damage.Given as given

abbrev pub invariant-loop-rect : given.invariant-loop-rect
invariant-loop-rect l = record {
  few : l.count ≤ l.rect-index;
  count : l.count ≡ length (parts_in l.frame.w l.frame.h (take l.rect-index l.damage));
  rects : l.to ≡ written (parts_in l.frame.w l.frame.h (take l.rect-index l.damage)) l.fn.to;
}
