-- The moved rect is sound.
use Rattle.std.proofs.Common.{sym, subst}
use Rattle.geom.specs.Covers.{IsSound}
use Rattle.page_properties.proofs.Walks.{shifted_sound}
use Rattle.page_properties.proofs.placement.narrowed.Goals as goal

pub intersect-requires-clause-sound : goal.intersect-requires-clause-sound
intersect-requires-clause-sound c =
    subst IsSound (sym c.shift-moved.ensures.value) (shifted_sound c.args.node.now.rect c.args.by c.requires.in_range c.requires.near)
