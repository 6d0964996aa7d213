-- One column more is written where a run reaches it.
use Rattle.std.proofs.Common.{◌≡◌, ◌+◌, ◌*◌, nat_lt, cond, ap, subst, sym, ◌∙◌, arith}
use Rattle.tile_tiling.specs.inner.Reach.{IsFarthest}
use Rattle.tile_tiling.specs.inner.Writes.{WritesRow}
use Rattle.tile_tiling.proofs.Sweeps.{farthest_more, far_tells, row_more}
use Rattle.tile_tiling.proofs.sweep.stamp_reached.Goals as goal

pub loop-x-preserved : goal.loop-x-preserved
loop-x-preserved c =
    let x = c.loop-x.x in
    let far = c.max-far.result in
    let next : IsFarthest c.args.reach.now (x + 1) far = subst (IsFarthest c.args.reach.now (x + 1)) (sym c.max-far.ensures) (farthest_more c.args.reach.now x c.loop-x.far c.loop-x.invariant.far) in
    let one : WritesRow c.loop-x.stamps.items c.stamp_row.new.stamps.items (c.args.y * c.args.wide + x) (c.args.y * c.args.wide + x + cond (nat_lt x far) 1 0) c.args.stamp =
    subst (λ n. WritesRow c.loop-x.stamps.items c.stamp_row.new.stamps.items (c.args.y * c.args.wide + x) (c.args.y * c.args.wide + x + n) c.args.stamp) c.one_before.ensures c.stamp_row.ensures in
    record {
      far = next;
      size = c.stamp_row.ensures.long ∙ c.loop-x.invariant.size;
      writes = λ test r.
          row_more c.args.wide c.args.y c.args.stamps.now.items c.loop-x.stamps.items c.stamp_row.new.stamps.items test x far c.args.stamp c.loop-x-test.true
          (far_tells c.args.reach.now c.args.wide test x far c.loop-x-test.true next r) (c.loop-x.invariant.writes test r) one;
    }
