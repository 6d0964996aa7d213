-- One quad, or one pass, less to test.
use Rattle.std.proofs.Common.{◌≡◌, ◌↔◌, ℕ, ◌+◌, Bool, false, List, ◌∷◌, subst, sym, ◌∙◌}
use Rattle.std.specs.Prelude.{All, IsTrue}
use Rattle.std.proofs.lemmas.List.Elements.{All-head, All-tail, All-cons}
use Rattle.viz_scene.specs.declared.quad.Quad.{Quad}
use Rattle.viz_scene.specs.declared.quad.RenderPass.{RenderPass}
use Rattle.viz_scene.specs.Views.{quad_view, quads_view, pass_view, passes_view}
use Rattle.viz_scene.specs.Sound.{QuadFits, AreSound}

pub quads_rest : (w h i : ℕ) (rest after : List Quad) (q : Quad) → rest ≡ q ∷ after → QuadFits w h i (quad_view q)
    → All (QuadFits w h i) (quads_view rest) ↔ All (QuadFits w h i) (quads_view after)
quads_rest w h i rest after q e fit =
    subst (λ xs. All (QuadFits w h i) (quads_view xs) ↔ All (QuadFits w h i) (quads_view after)) (sym e)
    (λ all. All-tail (QuadFits w h i) (quad_view q) (quads_view after) all, λ all. All-cons (QuadFits w h i) (quad_view q) (quads_view after) fit all)

pub passes_rest : (w h i : ℕ) (rest after : List RenderPass) (p : RenderPass) → rest ≡ p ∷ after → All (QuadFits w h i) (pass_view p)
    → AreSound w h i (passes_view rest) ↔ AreSound w h (i + 1) (passes_view after)
passes_rest w h i rest after p e fit =
    subst (λ xs. AreSound w h i (passes_view xs) ↔ AreSound w h (i + 1) (passes_view after)) (sym e) (λ all. all.1, λ all. (fit, all))

-- what one that does not fit says of all
pub quads_fail : (w h i : ℕ) (all rest after : List Quad) (q : Quad) (t : Bool) → rest ≡ q ∷ after → (IsTrue t ↔ QuadFits w h i (quad_view q)) → t ≡ false
    → (All (QuadFits w h i) (quads_view all) ↔ All (QuadFits w h i) (quads_view rest)) → IsTrue false ↔ All (QuadFits w h i) (quads_view all)
quads_fail w h i all rest after q t e test fails left = (
  λ wrong. absurd (cc (wrong)),
  λ fit. sym fails ∙ test.1 (All-head (QuadFits w h i) (quad_view q) (quads_view after) (subst (λ xs. All (QuadFits w h i) (quads_view xs)) e (left.0 fit))),
)

pub passes_fail : (w h i : ℕ) (all rest after : List RenderPass) (p : RenderPass) (t : Bool) → rest ≡ p ∷ after → (IsTrue t ↔ All (QuadFits w h i) (pass_view p)) → t ≡ false
    → (AreSound w h 0 (passes_view all) ↔ AreSound w h i (passes_view rest)) → IsTrue false ↔ AreSound w h 0 (passes_view all)
passes_fail w h i all rest after p t e test fails left = (
  λ wrong. absurd (cc (wrong)),
  λ sound. sym fails ∙ test.1 ((subst (λ xs. AreSound w h i (passes_view xs)) e (left.0 sound)).0),
)

pub both_ways : {A B C : Type 0} → (A ↔ B) → (B ↔ C) → A ↔ C
both_ways f g = (λ a. g.0 (f.0 a), λ c. f.1 (g.1 c))
