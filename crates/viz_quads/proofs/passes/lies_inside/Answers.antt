-- The group at the depth, and none past the last.
use Rattle.std.proofs.Common.{◌∙◌, sym, ap, ◌==◌, arith}
use Rattle.page_layers.specs.declared.paint.Group.{Group}
use Rattle.page_layers.proofs.PaintSteps.{first_here, first_past}
use Rattle.viz_quads.proofs.passes.lies_inside.Goals as goal

pub returns-then-depth-len : goal.returns-then-depth-len
returns-then-depth-len c =
    ap (λ (g : Group). c.args.effect == g.effect) c.index-group.ensures
    ∙ sym (first_here (λ (g : Group). g.effect) c.args.effect c.args.depth c.args.layer.now.groups.items c.index-group.result.now (omega arith))

pub returns-else-depth-len : goal.returns-else-depth-len
returns-else-depth-len c = sym (first_past (λ (g : Group). g.effect) c.args.effect c.args.depth c.args.layer.now.groups.items (omega arith))
