-- What an opaque quad hides.
use Rattle.std.proofs.Common.{◌≡◌, ℕ, ◌+◌, ◌*◌, ◌/◌, ◌-◌, ℤ, Bool, true, false, cond, List, [], ◌∷◌, refl, sym, ◌∙◌, ap, arith, inl, inr}
use Rattle.geom.specs.declared.Rect.{Rect}
use Rattle.geom.specs.Covers.{covers}
use Rattle.pixel.specs.Colours.{Parts, blend, above}
use Rattle.viz_scene.specs.Views.{QuadView, tiled, plain, grouped}
use Rattle.viz_scene.specs.Pixels.{quad_over, quads_over, placed_pixel}
use Rattle.viz_scene.specs.Opaque.{IsOpaque, LiesOn, IsCovered, IsHidden}

-- below a component of an opaque source nothing is kept
pub above_opaque : (below source alpha : ℕ) → alpha ≡ 255 → above below source alpha ≡ source
above_opaque below source alpha opaque = ap (λ (n : ℕ). source + (below * (255 - n) + 127) / 255) opaque ∙ nothing_kept below source
  where
    nothing_kept : (below source : ℕ) → source + (below * 0 + 127) / 255 ≡ source
    nothing_kept below source = omega arith

-- an opaque colour over another is itself
pub blend_opaque : (below source : Parts) → source.a ≡ 255 → blend below source ≡ source
blend_opaque below source opaque =
    let r : above below.r source.r source.a ≡ source.r = above_opaque below.r source.r source.a opaque in
    let g : above below.g source.g source.a ≡ source.g = above_opaque below.g source.g source.a opaque in
    let b : above below.b source.b source.a ≡ source.b = above_opaque below.b source.b source.a opaque in
    let a : above below.a source.a source.a ≡ source.a = above_opaque below.a source.a source.a opaque in
    λ i. record { r = r i; g = g i; b = b i; a = a i }

placed_over : (at : Rect) (x y : ℤ) (a b c : Parts) → c.a ≡ 255 → covers at x y ≡ true
    → cond (covers at x y) (blend a c) a ≡ cond (covers at x y) (blend b c) b
placed_over at x y a b c opaque lies = rw lies (blend_opaque a c opaque ∙ sym (blend_opaque b c opaque))

-- where an opaque quad lies, what is below makes no difference
opaque_same : (passes : List Parts) (x y : ℤ) (a b : Parts) (q : QuadView) → IsOpaque q → LiesOn x y q
    → quad_over passes x y a q ≡ quad_over passes x y b q
opaque_same passes x y a b (tiled image at from) opaque lies = placed_over at x y a b (placed_pixel image at from x y) (opaque x y lies) lies
opaque_same passes x y a b (plain at colour) opaque lies = placed_over at x y a b colour opaque lies
opaque_same passes x y a b (grouped pass opacity) opaque lies = absurd opaque

pub covered_same : (passes : List Parts) (x y : ℤ) (a b : Parts) (qs : List QuadView) → IsCovered x y qs
    → quads_over passes x y a qs ≡ quads_over passes x y b qs
covered_same passes x y a b [] h = absurd h
covered_same passes x y a b (q ∷ qs) h = elim h [
  | inl here ↦ ap (λ (c : Parts). quads_over passes x y c qs) (opaque_same passes x y a b q here.0 here.1)
  | inr later ↦ covered_same passes x y (quad_over passes x y a q) (quad_over passes x y b q) qs later
]

hidden_by : (passes : List Parts) (x y : ℤ) (below drawn : Parts) (later : List QuadView) (t : Bool) → (t ≡ true → IsCovered x y later)
    → quads_over passes x y (cond t drawn below) later ≡ quads_over passes x y below later
hidden_by passes x y below drawn later true h = covered_same passes x y drawn below later (h refl)
hidden_by passes x y below drawn later false h = refl

-- a hidden quad makes no difference
pub hidden_drops : (q : QuadView) (later : List QuadView) → IsHidden q later → (passes : List Parts) (x y : ℤ) (below : Parts)
    → quads_over passes x y below (q ∷ later) ≡ quads_over passes x y below later
hidden_drops (tiled image at from) later h passes x y below =
    hidden_by passes x y below (blend below (placed_pixel image at from x y)) later (covers at x y) (h x y)
hidden_drops (plain at colour) later h passes x y below = hidden_by passes x y below (blend below colour) later (covers at x y) (h x y)
hidden_drops (grouped pass opacity) later h passes x y below = absurd h
