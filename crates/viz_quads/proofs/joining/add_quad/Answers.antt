-- The union represents the last quad and the whole.
use Rattle.std.proofs.Common.{ℕ, ◌≡◌, ◌-◌, List, ◌∷◌, ◌++◌, [], length, take, ap, sym, ◌∙◌, subst, rules}
use Rattle.std.specs.Prelude.{vec_len}
use Rattle.viz_scene.specs.declared.quad.Quad.{Quad}
use Rattle.viz_scene.specs.Views.{quad_view, quads_view}
use Rattle.viz_quads.specs.inner.Joins.{ActAs}
use Rattle.viz_quads.proofs.Acts.{act_through}
use Rattle.viz_quads.proofs.joining.add_quad.Goals as goal

pub loop-union-preserved : goal.loop-union-preserved
loop-union-preserved c =
    let n : vec_len c.loop-union.quads ≡ length c.loop-union.quads.items = search rules in
    let fewer = c.pop.ensures.rest ∙ ap (λ (k : ℕ). take (k - 1) c.loop-union.quads.items) n in
    let acts = rw c.deref.ensures.value at c.in-Some.ensures.acts in
    act_through (quads_view c.pop.new.self.items ++ quad_view c.in-Some.union ∷ []) (quads_view c.loop-union.quads.items ++ quad_view c.loop-union.whole ∷ []) (quads_view c.args.quads.now.items ++ quad_view c.args.quad ∷ [])
    (subst (λ (qs : List Quad). ActAs (quads_view qs ++ quad_view c.in-Some.union ∷ []) (quads_view c.loop-union.quads.items ++ quad_view c.loop-union.whole ∷ [])) (sym fewer) acts)
    c.loop-union.invariant
