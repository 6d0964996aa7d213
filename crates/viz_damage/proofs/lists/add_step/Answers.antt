-- A quad that stands in the place of another differs from it within the damage.
use Rattle.std.proofs.Common.{length}
use Rattle.viz_damage.proofs.QuadSteps.{fits_at}
use Rattle.viz_damage.proofs.ListSteps.{changed_one}
use Rattle.viz_damage.proofs.lists.add_step.Goals as goal

pub add_change-requires-clause-old : goal.add_change-requires-clause-old
add_change-requires-clause-old c =
    fits_at (length c.args.reaches.now) c.args.old.now c.args.i c.index-old-i.result c.requires.old c.requires.i c.index-old-i.is

pub add_change-requires-clause-new : goal.add_change-requires-clause-new
add_change-requires-clause-new c =
    fits_at (length c.args.reaches.now) c.args.new.now c.args.j c.index-new-j.result c.requires.new c.requires.j c.index-new-j.is

pub returns-then-step-eq1-2-clause-changes : goal.returns-then-step-eq1-2-clause-changes
returns-then-step-eq1-2-clause-changes c =
    changed_one c.args.reaches.now c.args.damage.now.items c.add_change.new.damage.items c.args.old.now c.args.new.now c.args.i c.args.j c.index-old-i.result c.index-new-j.result
    c.requires.i c.requires.j c.index-old-i.is c.index-new-j.is c.in_ok-add_change.ensures.held c.in_ok-add_change.ensures.changes
