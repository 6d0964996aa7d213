-- The blocks so far are marked.
use Rattle.std.specs.Prelude.{◌+◌, ◌/◌, ◌≤◌, ◌≡◌, true}
use Rattle.pixel.specs.Surfaces.{holds}
use Rattle.viz_render.specs.inner.Masks.{Marks}
use Rattle.viz_render.proofs.marks.mark_all.Given as given

abbrev pub invariant-loop-block : given.invariant-loop-block
invariant-loop-block l = record {
  from : (l.at.x + 15) / 16 ≤ l.block;
  marks : Marks l.number (λ x y. holds l.at x y ≡ true) l.initial.tops l.tops;
}
