-- One rect of a colour acts as two of it.
use Rattle.std.proofs.Common.{◌≡◌, ◌∷◌, [], sym, subst, rules}
use Rattle.viz_scene.specs.declared.quad.Quad.{Quad}
use Rattle.viz_scene.specs.Views.{plain, quad_view}
use Rattle.viz_quads.specs.inner.Joins.{ActAs}
use Rattle.viz_quads.proofs.Acts.{act_joined}
use Rattle.viz_quads.proofs.joining.joined.Goals as goal

pub returns : goal.returns
returns c =
    let same : c.in-Solid.colour ≡ c.in-Solid-second.other = search rules in
    subst (λ (q : Quad). ActAs (plain c.in_ok-union.union c.in-Solid.colour ∷ []) (quad_view q ∷ quad_view c.args.second.now ∷ [])) (sym c.in-Solid.is)
    (subst (λ (q : Quad). ActAs (plain c.in_ok-union.union c.in-Solid.colour ∷ []) (plain c.in-Solid.at c.in-Solid.colour ∷ quad_view q ∷ [])) (sym c.in-Solid-second.is)
    (act_joined c.in-Solid.at c.in-Solid-second.next c.in_ok-union.union c.in-Solid.colour c.in-Solid-second.other c.in_ok-union.ensures same))
