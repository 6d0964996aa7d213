-- The quad is one of its kind.
use Rattle.viz_render.proofs.MarkSteps.{marks_none}
use Rattle.viz_render.proofs.marks.mark_quad.Goals as goal

pub returns-in-Tile : goal.returns-in-Tile
returns-in-Tile c = record { marks = rw (c.in-Tile.is) (rw (c.deref.ensures) at c.mark_tile.ensures.marks) }

pub returns-in-Solid : goal.returns-in-Solid
returns-in-Solid c = record { marks = rw (c.in-Solid.is) c.mark_solid.ensures.marks }

pub returns-then-lies_beside : goal.returns-then-lies_beside
returns-then-lies_beside c = record { marks = marks_none c.args.number _ c.args.tops.now c.requires.tops }
