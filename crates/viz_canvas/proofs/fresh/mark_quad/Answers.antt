-- Each kind of quad.
use Rattle.viz_canvas.proofs.FreshSteps.{plain_alike}
use Rattle.viz_canvas.proofs.fresh.mark_quad.Goals as goal

pub returns-in-Tile-clause-alike : goal.returns-in-Tile-clause-alike
returns-in-Tile-clause-alike c = rw (c.in-Tile.is) (rw (c.deref.ensures) at c.mark_tile.ensures.alike)

pub returns-in-Solid-clause-alike : goal.returns-in-Solid-clause-alike
returns-in-Solid-clause-alike c = rw (c.in-Solid.is) (λ y yh z. plain_alike c.args.area _ _ y (c.mark_solid.ensures.alike y yh z))
