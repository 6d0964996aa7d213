use Rattle.std.proofs.Common.{◌≡◌, map, take, drop, ◌++◌, length}
use Rattle.std.specs.List.{All}
use Rattle.geom.specs.Covers.{IsSound}
use Rattle.geom.specs.Common.{common}
use Rattle.region.proofs.region.clip_rects.Given as goal

abbrev pub invariant-loop-i : goal.invariant-loop-i
invariant-loop-i l = record {
  rects : l.rects.items ≡ map (λ s. common s l.r) (take l.i l.fn.rects.items) ++ drop l.i l.fn.rects.items;
  long : length l.rects.items ≡ length l.fn.rects.items;
  sound : All IsSound l.rects.items;
}
