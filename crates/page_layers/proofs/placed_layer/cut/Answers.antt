-- A clip lets through what it covers.
use Rattle.std.proofs.Common.{◌&&◌, Option, ap, sym, ◌∙◌}
use Rattle.geom.specs.declared.Rect.{Rect}
use Rattle.geom.specs.Covers.{covers}
use Rattle.page_layers.specs.TreePainting.{lets_through}
use Rattle.page_layers.proofs.placed_layer.cut.Goals as goal

pub returns-in-None-clause-points : goal.returns-in-None-clause-points
returns-in-None-clause-points c = λ x y. ap (λ (o : Option Rect). lets_through o x y && covers c.args.rect x y) (sym c.in-None.is)

pub returns-in-Some-clause-points : goal.returns-in-Some-clause-points
returns-in-Some-clause-points c = λ x y.
    c.intersect.ensures.points x y ∙ ap (λ (o : Option Rect). lets_through o x y && covers c.args.rect x y) (sym c.in-Some.is)
