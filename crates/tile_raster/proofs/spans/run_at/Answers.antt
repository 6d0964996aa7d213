-- A span that hides what is below it tells the colour with those above it.
use Rattle.std.proofs.Common.{arith}
use Rattle.tile_raster.proofs.RowRuns.{told_here}
use Rattle.tile_raster.proofs.spans.run_at.Goals as goal

pub returns-then-is_hiding-clause-alike : goal.returns-then-is_hiding-clause-alike
returns-then-is_hiding-clause-alike c =
    told_here c.args.spans.now c.loop-first.first c.args.x c.loop-first.end c.alike_until-end.result c.index-spans-first.result
    (omega (arith, c.loop-first-test.true)) c.loop-first.invariant.first c.index-spans-first.is c.loop-first.invariant.alike c.alike_until-end.ensures.most
    c.alike_until-end.ensures.alike (c.is_hiding.ensures.column c.if-is_hiding.true) (c.is_hiding.ensures.opaque c.if-is_hiding.true)
