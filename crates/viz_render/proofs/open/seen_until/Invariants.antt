-- The places so far were passed by.
use Rattle.std.specs.Prelude.{◌≤◌, ◌-◌}
use Rattle.viz_render.proofs.open.seen_until.Given as given

abbrev pub invariant-loop-place : given.invariant-loop-place
invariant-loop-place l = record {
  low : l.first ≤ l.place;
  high : l.place ≤ l.end;
}

abbrev pub decreases-loop-place : given.decreases-loop-place
decreases-loop-place l = l.end - l.place
