use Rattle.std.proofs.Common.{◌<◌, ◌≤◌, length, drop}
use Rattle.tile_raster.specs.inner.Patches.{AreAlike}
use Rattle.tile_raster.proofs.spans.run_at.Given as given

-- the spans that were looked at are alike in the columns of the run
abbrev pub invariant-loop-first : given.invariant-loop-first
invariant-loop-first l = record {
  first : l.first ≤ length l.spans;
  some : l.x < l.end;
  inside : l.end ≤ l.width;
  alike : AreAlike (drop l.first l.spans) l.x l.end;
}

abbrev pub decreases-loop-first : given.decreases-loop-first
decreases-loop-first l = l.first
