-- A group draws nothing where its pass is transparent.
use Rattle.viz_render.proofs.Groups.{group_misses}
use Rattle.viz_render.proofs.hull.quad_rect.Goals as goal

pub returns-in-Group-clause-outside : goal.returns-in-Group-clause-outside
returns-in-Group-clause-outside c = λ x y off.
    rw (c.in-Group.is)
    (group_misses c.args.passes.now c.in-Group.pass _ c.index-passes-pass.result c.rect.result (rw (c.in-Group.is) at c.requires) c.index-passes-pass.is
    c.rect.ensures.value x y off)
