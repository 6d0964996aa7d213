-- Where the rect begins and ends is marked.
use Rattle.std.proofs.Common.{length}
use Rattle.viz_canvas.proofs.FreshSteps.{even_part, even_outside}
use Rattle.viz_canvas.proofs.fresh.mark_solid.Goals as goal

pub returns-in-Some-clause-alike : goal.returns-in-Some-clause-alike
returns-in-Some-clause-alike c =
    even_part c.args.at c.args.area c.in-Some.part c.mark_ends.new.fresh (length c.args.fresh.now) c.in-Some.ensures c.requires.room c.mark_ends.ensures.first c.mark_ends.ensures.end

pub returns-in_default-clause-alike : goal.returns-in_default-clause-alike
returns-in_default-clause-alike c = even_outside c.args.at c.args.area c.args.fresh.now c.in_default.ensures
