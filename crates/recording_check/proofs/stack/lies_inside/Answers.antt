-- The group at a depth is the first of those from there on.
use Rattle.std.proofs.Common.{◌∙◌, sym, ap, ◌==◌}
use Rattle.page_layers.specs.declared.paint.Group.{Group}
use Rattle.page_layers.proofs.PaintSteps.{first_here, first_past}
use Rattle.recording_check.proofs.stack.lies_inside.Goals as goal

pub returns-in-Some : goal.returns-in-Some
returns-in-Some c =
    ap (λ (g : Group). c.args.effect == g.effect) c.in-Some.ensures.value.1
    ∙ sym (first_here (λ (g : Group). g.effect) c.args.effect c.args.depth c.args.sheet.now.groups c.in-Some.group c.in-Some.ensures.value.0)

pub returns-in-None : goal.returns-in-None
returns-in-None c = sym (first_past (λ (g : Group). g.effect) c.args.effect c.args.depth c.args.sheet.now.groups c.in-None.ensures.value)
