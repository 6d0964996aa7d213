-- The result is the moved rect by definition.
use Rattle.std.proofs.Common.{◌∙◌, ◌+ℤ◌, ap, rules}
use Rattle.geom.specs.declared.rect.Rect.{Rect}
use Rattle.geom.specs.Covers.{covers}
use Rattle.geom.proofs.Meets.{covers_shifted}
use Rattle.geom.proofs.rect.Rect.shift.Goals as goal

pub returns-clause-value : goal.returns-clause-value
returns-clause-value c = search rules

pub returns-clause-points : goal.returns-clause-points
returns-clause-points c = λ x y.
    ap (λ (r : Rect). covers r (x +ℤ c.args.by.x) (y +ℤ c.args.by.y)) (returns-clause-value c) ∙ covers_shifted c.args.self c.args.by x y
