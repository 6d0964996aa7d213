-- The blocks so far have their numbers.
use Rattle.std.specs.Prelude.{◌≡◌, length}
use Rattle.viz_render.specs.inner.Masks.{AreHidden}
use Rattle.viz_render.proofs.mask.hide_blocks.Given as given

abbrev pub invariant-loop-place : given.invariant-loop-place
invariant-loop-place l = record {
  size : length l.tops ≡ 1032;
  hidden : AreHidden l.root l.last l.number l.place l.tops;
}
