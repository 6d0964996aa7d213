-- What both cover is added.
use Rattle.std.proofs.Common.{◌||◌, Bool, ap, ◌∙◌}
use Rattle.region.specs.Points.{covered}
use Rattle.cc.proofs.edits.add_common.Goals as goal

pub returns-in-Ok : goal.returns-in-Ok
returns-in-Ok c = λ x y. c.in-Ok.ensures.ok x y ∙ ap (λ (t : Bool). covered c.args.region.now x y || t) (c.intersect.ensures.points x y)
