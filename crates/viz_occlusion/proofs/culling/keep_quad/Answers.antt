-- A quad that can be seen is kept.
use Rattle.viz_scene.specs.Views.{quad_view}
use Rattle.viz_occlusion.proofs.KeptSteps.{passed_kept}
use Rattle.viz_occlusion.proofs.culling.keep_quad.Goals as goal

pub returns : goal.returns
returns c =
    let no = c.is_hidden.ensures.no in
    passed_kept (quad_view c.args.quad.now) c.in_ok-kept_as.field-0 c.args.cover.now c.add_cover.new.cover c.args.kept.now.items
    c.push.new.self.items c.in_ok-push.ensures.items c.in_ok-kept_as.ensures (λ later is h. no c.if-is_hidden.false later is h)
    c.in_ok-add_cover.ensures
