-- Rows of one band are equal.
use Rattle.std.proofs.Common.{◌≡◌, ◌+◌, ◌-◌, sym, ◌∙◌, subst, arith}
use Rattle.tile_raster.specs.Images.{AreSameRows}
use Rattle.viz_damage.proofs.moved.step_from.Goals as goal

pub returns-then-apart-same-clause-same : goal.returns-then-apart-same-clause-same
returns-then-apart-same-clause-same c = λ t k lt x inside.
    let place : c.args.row + (c.args.apart + k) ≡ c.args.row + c.args.apart + k = omega arith in
    let far : AreSameRows c.args.image.now.list c.args.image.now.rect c.args.row (c.args.row + c.args.apart + k) =
    subst (AreSameRows c.args.image.now.list c.args.image.now.rect c.args.row) place (c.same-same.ensures.equal (c.args.apart + k) (omega arith)) in
    sym (c.same-same.ensures.equal k (omega arith) x inside) ∙ far x inside
