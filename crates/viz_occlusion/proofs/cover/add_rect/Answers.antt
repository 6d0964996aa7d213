-- A joint represents both.
use Rattle.std.proofs.Common.{◌∙◌}
use Rattle.viz_occlusion.proofs.CoverSteps.{joined_same, rest_inside}
use Rattle.viz_occlusion.proofs.cover.add_rect.Goals as goal

pub loop-joint-preserved : goal.loop-joint-preserved
loop-joint-preserved c =
    let before = c.loop-joint.cover.items in
    let rest = c.swap_remove.new.self.items in
    let place = c.in-Some.joint.place in
    let taken = c.swap_remove.result in
    let joint = rw c.deref.ensures.value at c.in-Some.ensures in
    record {
      points = λ x y.
          joined_same before rest place taken c.loop-joint.whole c.in-Some.joint.union joint.there c.swap_remove.ensures.value c.swap_remove.ensures.items
          (joint.union taken c.swap_remove.ensures.value) x y
          ∙ c.loop-joint.invariant.points x y;
      cover = rest_inside before rest place taken joint.there c.swap_remove.ensures.value c.swap_remove.ensures.items c.loop-joint.invariant.cover;
      whole = joint.inside;
    }
