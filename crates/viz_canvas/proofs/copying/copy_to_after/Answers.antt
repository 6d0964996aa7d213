-- Each block is copied before those that follow it.
use Rattle.std.proofs.Common.{◌≡◌, ℕ, ◌+◌, ◌-◌, ◌≤◌, subst, arith}
use Rattle.std.proofs.lemmas.Int.{clamps}
use Rattle.viz_canvas.specs.inner.Copies.{AreCopied}
use Rattle.viz_canvas.proofs.BlockCopies.{more_to_after}
use Rattle.viz_canvas.proofs.copying.copy_to_after.Goals as goal

pub loop-left-preserved : goal.loop-left-preserved
loop-left-preserved c =
    let block = c.min-block.result in
    let left = c.loop-left.left - block in
    let fits : block ≤ c.loop-left.left = omega (arith, clamps) in
    let before : c.loop-left.left ≡ left + block = omega (arith, fits) in
    record {
      size = omega (arith, c.copy_block_to_after.ensures.size, c.loop-left.invariant.size);
      left = omega (arith, c.loop-left.invariant.left);
      copied =
          more_to_after c.args.from c.args.to left block c.args.len c.args.bytes.now c.loop-left.bytes c.copy_block_to_after.new.bytes
          c.requires.order (omega (arith, before, c.loop-left.invariant.left))
          (subst (λ (n : ℕ). AreCopied (c.args.from + n) (c.args.to + n) (c.args.len - n) c.args.bytes.now c.loop-left.bytes) before c.loop-left.invariant.copied)
          c.copy_block_to_after.ensures.copied;
    }
