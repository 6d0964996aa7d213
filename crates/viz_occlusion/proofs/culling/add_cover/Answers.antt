-- A quad that is not opaque hides nothing.
use Rattle.std.proofs.Common.{rules}
use Rattle.viz_scene.specs.Views.{quad_view}
use Rattle.viz_occlusion.proofs.KeptSteps.{cover_kept}
use Rattle.viz_occlusion.proofs.culling.add_cover.Goals as goal

pub returns-then-not-is_opaque : goal.returns-then-not-is_opaque
returns-then-not-is_opaque c = λ later is.
    cover_kept (quad_view c.args.quad.now) later c.args.cover.now (c.is_opaque.ensures.no (search rules)) is
