-- What was built shows the layers before the rest.
use Rattle.std.proofs.Common.{ℕ, ◌+◌, ◌-◌, ◌*◌, ◌≤◌, All, length}
use Rattle.geom.specs.declared.rect.Rect.{Rect}
use Rattle.viz_scene.specs.Views.{passes_view, quads_view}
use Rattle.viz_quads.specs.inner.Passes.{IsLayer}
use Rattle.viz_quads.proofs.Built.{Building}
use Rattle.viz_quads.proofs.passes.+quads_from.Given as goal

abbrev pub decreases-quads_from : goal.decreases-quads_from
decreases-quads_from l = 257 - l.depth

abbrev pub invariant-loop-first : goal.invariant-loop-first
invariant-loop-first l = record {
  few : All (λ k. length k.groups.items ≤ 256) l.rest;
  room : length l.passes.items + length l.rest * (256 - l.depth) ≤ length l.fn.passes.items + length l.layers * (256 - l.depth);
  built : (w h : ℕ) (view : Rect) → All (IsLayer w h view) l.layers → Building w h view l.depth l.layers l.rest (passes_view l.fn.passes.items) (passes_view l.passes.items) (quads_view l.quads.items);
}

abbrev pub decreases-loop-first : goal.decreases-loop-first
decreases-loop-first l = length l.rest
