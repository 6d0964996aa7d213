-- One more place in a row, and one more row.
use Rattle.std.proofs.Common.{arith, ◌∙◌, ◌≡◌, ◌++◌, ◌∷◌, [], ap, append_assoc}
use Rattle.geom.specs.Grids.{place}
use Rattle.geom.proofs.Blocks.{line_more, lines_more}
use Rattle.geom.proofs.grid.block.Goals as goal

pub loop-x-preserved : goal.loop-x-preserved
loop-x-preserved c =
    let e = line_more c.loop-y.y c.args.columns.first c.loop-x.x c.loop-x.auto.x in
    rw (e, ← append_assoc) (c.in_ok-push.ensures.items ∙ ap (λ t. t ++ place c.loop-y.y c.loop-x.x ∷ []) c.loop-x.invariant)

pub loop-y-preserved : goal.loop-y-preserved
loop-y-preserved c =
    let e = lines_more c.args.columns c.args.rows.first c.loop-y.y c.loop-y.auto.y in
    let x : c.loop-x.x ≡ c.args.columns.end = omega arith in
    rw e (rw x at c.loop-x.invariant)
