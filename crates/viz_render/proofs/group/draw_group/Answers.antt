-- The part that lies in the area is drawn, and elsewhere the pass is transparent.
use Rattle.viz_render.proofs.Groups.{group_part_shown, group_outside}
use Rattle.viz_render.proofs.group.draw_group.Goals as goal

pub returns-in-Some-clause-pixels : goal.returns-in-Some-clause-pixels
returns-in-Some-clause-pixels c =
    let each = rw (c.size_of.ensures, c.pixels.ensures) at c.paint_open.ensures.pixels in
    let shared = rw (c.rect.ensures.value) at c.in-Some.ensures in
    group_part_shown c.args.area c.args.pass.now c.in-Some.part c.args.opacity c.args.seen.mask.now.tops c.args.seen.number c.args.surface.now c.paint_open.new.surface shared each

pub returns-in_default-clause-pixels : goal.returns-in_default-clause-pixels
returns-in_default-clause-pixels c =
    group_outside c.args.area c.args.pass.now c.args.opacity c.args.seen.mask.now.tops c.args.seen.number c.args.surface.now (rw (c.rect.ensures.value) at c.in_default.ensures)
