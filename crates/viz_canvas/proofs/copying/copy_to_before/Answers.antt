-- Each block is copied after those before it.
use Rattle.std.proofs.Common.{◌≡◌, ℕ, subst, arith}
use Rattle.std.proofs.lemmas.Int.{clamps}
use Rattle.viz_canvas.specs.inner.Copies.{AreCopied}
use Rattle.viz_canvas.proofs.BlockCopies.{more_to_before}
use Rattle.viz_canvas.proofs.copying.copy_to_before.Goals as goal

pub loop-done-preserved : goal.loop-done-preserved
loop-done-preserved c = record {
  size = omega (arith, c.copy_block_to_before.ensures.size, c.loop-done.invariant.size);
  done = omega (arith, clamps);
  copied =
      more_to_before c.args.from c.args.to c.loop-done.done c.min-block.result c.args.bytes.now c.loop-done.bytes c.copy_block_to_before.new.bytes
      c.requires.order c.loop-done.invariant.copied c.copy_block_to_before.ensures.copied;
}

pub returns-clause-copied : goal.returns-clause-copied
returns-clause-copied c =
    let all : c.loop-done.done ≡ c.args.len = omega (arith, c.loop-done.invariant.done, c.loop-done-test.false) in
    subst (λ (n : ℕ). AreCopied c.args.from c.args.to n c.args.bytes.now c.loop-done.bytes) all c.loop-done.invariant.copied
