-- The colour, or the part that is shown, decides.
use Rattle.viz_occlusion.proofs.AlphaSteps.{opaque_solid, other_solid, opaque_tile, other_tile, never}
use Rattle.viz_occlusion.proofs.opaque.is_opaque_tile.Goals as goal

pub returns-in-Some-clause-yes : goal.returns-in-Some-clause-yes
returns-in-Some-clause-yes c = λ t.
    opaque_solid c.args.image.now c.args.at c.args.from c.in-Some.colour c.requires.at c.requires.taken c.in-Some.ensures (c.is_opaque_colour.ensures.0 t)

pub returns-in-Some-clause-no : goal.returns-in-Some-clause-no
returns-in-Some-clause-no c = λ f.
    other_solid c.args.image.now c.args.at c.args.from c.in-Some.colour c.requires.at c.requires.taken c.in-Some.ensures
    (λ e. never c.is_opaque_colour.result f (c.is_opaque_colour.ensures.1 e))

pub returns-in-None-clause-yes : goal.returns-in-None-clause-yes
returns-in-None-clause-yes c = λ t.
    opaque_tile c.args.image.now c.args.at c.args.from c.part_of.result c.requires.taken
    (record { left = c.part_of.ensures.left; top = c.part_of.ensures.top; w = c.part_of.ensures.w; h = c.part_of.ensures.h })
    (c.is_opaque_part.ensures.yes t)

pub returns-in-None-clause-no : goal.returns-in-None-clause-no
returns-in-None-clause-no c = λ f.
    other_tile c.args.image.now c.args.at c.args.from c.part_of.result c.requires.at c.requires.taken
    (record { left = c.part_of.ensures.left; top = c.part_of.ensures.top; w = c.part_of.ensures.w; h = c.part_of.ensures.h })
    (c.is_opaque_part.ensures.no f)
