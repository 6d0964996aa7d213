-- What is written: the rows above, and in the inner loop the columns to the left too.
use Rattle.std.proofs.Common.{◌≡◌, ◌++◌, ◌-◌, map, flat_map}
use Rattle.std.specs.List.{range_with_len}
use Rattle.geom.specs.Grids.{place}
use Rattle.geom.specs.IndexRanges.{line}
use Rattle.geom.proofs.grid.block.Given as goal

abbrev pub invariant-loop-y : goal.invariant-loop-y
invariant-loop-y l = l.places.items ≡ flat_map (line l.fn.columns) (range_with_len l.fn.rows.first (l.y - l.fn.rows.first))

abbrev pub invariant-loop-x : goal.invariant-loop-x
invariant-loop-x l =
    l.places.items
    ≡ flat_map (line l.fn.columns) (range_with_len l.fn.rows.first (l.y - l.fn.rows.first))
    ++ map (place l.y) (range_with_len l.fn.columns.first (l.x - l.fn.columns.first))
