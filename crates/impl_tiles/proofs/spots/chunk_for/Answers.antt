-- The chunk in the middle tells of those on its one side.
use Rattle.std.proofs.Common.{◌≡◌, ℕ, ◌<◌, ◌+◌, ◌-◌, ◌/◌, length, subst, arith}
use Rattle.impl_tiles.specs.inner.Chunked.{BeginsAbove, BeginsBy}
use Rattle.impl_tiles.proofs.Flats.{chunk_at, chunk_is}
use Rattle.impl_tiles.proofs.SpotFacts.{above_chunk, below_chunk}
use Rattle.impl_tiles.proofs.spots.chunk_for.Goals as goal

pub loop-high-preserved-then-begins_above : goal.loop-high-preserved-then-begins_above
loop-high-preserved-then-begins_above c =
    let cs = c.args.chunks.now in
    let middle : ℕ = c.loop-high.low + (c.loop-high.high - c.loop-high.low) / 2 in
    let lt : middle < length cs = omega (arith, c.loop-high.invariant.within, c.loop-high-test.true) in
    let own : c.index-chunks-middle.result ≡ chunk_at cs middle = chunk_is cs middle c.index-chunks-middle.result lt c.index-chunks-middle.is in
    record {
      some = omega (arith, c.loop-high-test.true);
      within = omega (arith, c.loop-high.invariant.within, c.loop-high-test.true);
      before = c.loop-high.invariant.before;
      after = above_chunk cs c.args.key middle lt c.requires.full c.requires.rises (subst (BeginsAbove c.args.key) own (c.begins_above.ensures.above c.if-begins_above.true));
    }

pub loop-high-preserved : goal.loop-high-preserved
loop-high-preserved c =
    let cs = c.args.chunks.now in
    let middle : ℕ = c.loop-high.low + (c.loop-high.high - c.loop-high.low) / 2 in
    let lt : middle < length cs = omega (arith, c.loop-high.invariant.within, c.loop-high-test.true) in
    let own : c.index-chunks-middle.result ≡ chunk_at cs middle = chunk_is cs middle c.index-chunks-middle.result lt c.index-chunks-middle.is in
    record {
      some = omega (arith, c.loop-high-test.true);
      within = c.loop-high.invariant.within;
      before = below_chunk cs c.args.key middle lt c.requires.full c.requires.rises (subst (BeginsBy c.args.key) own (c.begins_above.ensures.by c.if-begins_above.false));
      after = c.loop-high.invariant.after;
    }
