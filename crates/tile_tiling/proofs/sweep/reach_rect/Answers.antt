-- In a row that the rect touches, its columns are touched; in another, none.
use Rattle.std.proofs.Common.{◌||◌, ◌∙◌, ap, sym}
use Rattle.geom.specs.Common.{meets}
use Rattle.geom.specs.Grids.{tiles, rect_of_place}
use Rattle.tile_tiling.specs.inner.Writes.{in_run}
use Rattle.tile_tiling.proofs.Sweeps.{reach_same, touching_row}
use Rattle.tile_tiling.proofs.sweep.reach_rect.Goals as goal

pub returns-then-is_in_run-clause-reach : goal.returns-then-is_in_run-clause-reach
returns-then-is_in_run-clause-reach c = λ test r.
    let g = c.args.grid in
    reach_same c.reach_out.new.reach (tiles g.w g.tile) (λ x. test x || in_run c.columns_touching-columns.result x)
    (λ x. test x || meets (rect_of_place g (record { x = x; y = c.args.y })) c.args.rect.now)
    (λ x. ap (λ b. test x || b) (touching_row g c.args.rect.now c.columns_touching-columns.result c.rows_touching-rows.result c.args.y c.columns_touching-columns.ensures c.rows_touching-rows.ensures (sym c.is_in_run.ensures ∙ c.if-is_in_run.true) x))
    (c.reach_out.ensures.reach (tiles g.w g.tile) test r)
