-- One more quad, and one more pass.
use Rattle.std.proofs.Common.{◌≡◌, ℕ, ◌+◌, ◌≤◌, lit≤, List, [], ◌∷◌, ◌++◌, length, sym, ◌∙◌, ap, subst, arith}
use Rattle.std.specs.Prelude.{All}
use Rattle.std.proofs.lemmas.List.{map-append, length-map, length-append}
use Rattle.std.proofs.lemmas.List.Elements.{All-push}
use Rattle.viz_scene.specs.declared.Quad.{Quad}
use Rattle.viz_scene.specs.declared.RenderPass.{RenderPass}
use Rattle.viz_scene.specs.Views.{quad_view, quads_view, pass_view, passes_view}
use Rattle.viz_scene.specs.Sound.{QuadFits, AreSound, IsSceneSide}
use Rattle.viz_scene.proofs.Steps.{sound_append}

pub quads_push : (i : ℕ) (xs ys : List Quad) (q : Quad) → ys ≡ xs ++ q ∷ [] → All (QuadFits 1024 1024 i) (quads_view xs) → QuadFits 1024 1024 i (quad_view q)
    → All (QuadFits 1024 1024 i) (quads_view ys)
quads_push i xs ys q e all fits =
    let views : quads_view ys ≡ quads_view xs ++ quad_view q ∷ [] = ap quads_view e ∙ map-append quad_view xs (q ∷ []) in
    subst (All (QuadFits 1024 1024 i)) (sym views) (All-push (QuadFits 1024 1024 i) (quads_view xs) (quad_view q) all fits)

pub passes_push : (n : ℕ) (ps qs : List RenderPass) (p : RenderPass) → qs ≡ ps ++ p ∷ [] → length ps ≡ n → AreSound 1024 1024 0 (passes_view ps)
    → All (QuadFits 1024 1024 n) (pass_view p) → AreSound 1024 1024 0 (passes_view qs)
passes_push n ps qs p e len sound all =
    let views : passes_view qs ≡ passes_view ps ++ pass_view p ∷ [] = ap passes_view e ∙ map-append pass_view ps (p ∷ []) in
    let at : n ≡ 0 + length (passes_view ps) = let long : length (passes_view ps) ≡ length ps = length-map ps pass_view in omega arith in
    subst (AreSound 1024 1024 0) (sym views)
    (sound_append 1024 1024 0 (passes_view ps) (pass_view p ∷ []) sound (subst (λ (k : ℕ). All (QuadFits 1024 1024 k) (pass_view p)) at all, tt))

-- a side of the scenes
pub large_side : IsSceneSide 1024
large_side = record { low = lit≤ tt; high = lit≤ tt }

-- the list with one element more is not empty
pub some_pass : (ps qs : List RenderPass) (p : RenderPass) → qs ≡ ps ++ p ∷ [] → 1 ≤ length (passes_view qs)
some_pass ps qs p e =
    let long : length qs ≡ length ps + 1 = ap length e ∙ length-append ps (p ∷ []) in
    let views : length (passes_view qs) ≡ length qs = length-map qs pass_view in
    omega arith
