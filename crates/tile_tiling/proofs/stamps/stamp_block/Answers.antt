use Rattle.std.proofs.Common.{◌≡◌, arith, subst, nat_le, nat_lt, ◌&&◌}
use Rattle.tile_tiling.specs.inner.Writes.{WritesCells, in_run}
use Rattle.tile_tiling.proofs.Cells.{cells_none, cells_more}
use Rattle.tile_tiling.proofs.stamps.stamp_block.Goals as goal

pub loop-y-init : goal.loop-y-init
loop-y-init c = cells_none c.args.wide c.args.stamps.now.items c.args.columns c.args.rows.first c.args.stamp

pub loop-y-preserved : goal.loop-y-preserved
loop-y-preserved c = cells_more c.args.wide c.args.stamps.now.items c.loop-y.stamps.items c.stamp_row.new.stamps.items c.args.columns c.args.rows.first c.loop-y.y c.args.stamp (omega arith) c.requires.in_row c.loop-y.invariant c.stamp_row.ensures

pub returns : goal.returns
returns c =
    let e : c.loop-y.y ≡ c.args.rows.end = omega arith in
    subst (λ n. WritesCells c.args.wide c.args.stamps.now.items c.loop-y.stamps.items (λ x y. in_run c.args.columns x && (nat_le c.args.rows.first y && nat_lt y n)) c.args.stamp) e c.loop-y.invariant
