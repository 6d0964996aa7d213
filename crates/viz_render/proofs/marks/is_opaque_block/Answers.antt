-- Equal rows more are opaque.
use Rattle.std.proofs.Common.{ℕ, ◌+◌, ◌-◌, ◌*◌, ◌<◌, subst, arith, rules}
use Rattle.tile_raster.specs.Images.{IsRow, AreSameRows}
use Rattle.viz_render.proofs.MarkSteps.{joint_hides}
use Rattle.viz_render.proofs.marks.is_opaque_block.Goals as goal

pub loop-done-preserved : goal.loop-done-preserved
loop-done-preserved c = record {
  few = omega (arith, c.equal_rows_at-done.ensures.most);
  opaque =
      joint_hides c.args.image.now c.args.part c.args.block c.args.down c.loop-done.done c.equal_rows_at-done.result (8 * c.args.down - c.args.part.at.y + c.loop-done.done) c.row-pixels.result.now
      (subst (λ (n : ℕ). IsRow c.args.image.now.list c.args.image.now.rect n c.row-pixels.result.now) c.row_number-row.ensures c.row-pixels.ensures)
      (subst (λ (n : ℕ). (k : ℕ) → k < c.equal_rows_at-done.result → AreSameRows c.args.image.now.list c.args.image.now.rect n (n + k)) c.row_number-row.ensures c.equal_rows_at-done.ensures.equal)
      c.requires.part.columns (omega (arith, c.equal_rows_at-done.ensures.most)) (omega arith) c.requires.left c.requires.right (omega arith)
      (c.are_sixteen_opaque.ensures (search rules)) c.loop-done.invariant.opaque;
}

pub returns : goal.returns
returns c = λ t x y column low high. c.loop-done.invariant.opaque x y column low (omega (arith, c.loop-done-test.false))
