-- The place of a point's quotients is the one that covers it.
use Rattle.std.proofs.Common.{subst, sym, rules}
use Rattle.geom.specs.declared.tile.Place.{Place}
use Rattle.geom.specs.Sides.{IsGrid}
use Rattle.geom.specs.Grids.{IsPlaceOf}
use Rattle.geom.proofs.Cuts.{is_place_at}
use Rattle.geom.proofs.grid.Grid.place_of.Goals as goal

pub returns-clause-value : goal.returns-clause-value
returns-clause-value c = search rules

pub returns-clause-place : goal.returns-clause-place
returns-clause-place c =
    subst (λ (p : Place). IsPlaceOf c.args.self c.args.p.x c.args.p.y p) (sym (returns-clause-value c))
    (is_place_at c.args.self (subst IsGrid c.self.view_is c.self.invariant) c.args.p.x c.args.p.y c.requires)
