-- Quads and passes, one more at a time.
use Rattle.std.proofs.Common.{◌≡◌, ℕ, ◌+◌, ◌<◌, ◌≤◌, ℤ, List, [], ◌∷◌, ◌++◌, length, refl, arith, zero, suc, add-zero}
use Rattle.std.specs.Prelude.{All, slice_index_or}
use Rattle.std.proofs.lemmas.List.Sums.{fold-append}
use Rattle.std.proofs.lemmas.List.{length-append}
use Rattle.pixel.specs.Colours.{Parts, clear}
use Rattle.viz_scene.specs.Views.{QuadView, tiled, plain, grouped}
use Rattle.viz_scene.specs.Pixels.{quad_over, quads_over, passes_at, root_pixel, scene_pixel}
use Rattle.viz_scene.specs.Sound.{QuadFits, AreSound}

-- quads after others are laid over what those show
pub quads_append : (passes : List Parts) (x y : ℤ) (below : Parts) (qs rs : List QuadView)
    → quads_over passes x y below (qs ++ rs) ≡ quads_over passes x y (quads_over passes x y below qs) rs
quads_append passes x y below qs rs = fold-append (quad_over passes x y) below qs rs

-- passes after others see the colours of those
pub passes_append : (x y : ℤ) (before : List Parts) (ps qs : List (List QuadView))
    → passes_at x y before (ps ++ qs) ≡ passes_at x y (passes_at x y before ps) qs
passes_append x y before [] qs = refl
passes_append x y before (p ∷ ps) qs = passes_append x y (before ++ quads_over before x y clear p ∷ []) ps qs

-- one more pass
pub passes_push : (x y : ℤ) (before : List Parts) (ps : List (List QuadView)) (p : List QuadView)
    → passes_at x y before (ps ++ p ∷ []) ≡ passes_at x y before ps ++ quads_over (passes_at x y before ps) x y clear p ∷ []
passes_push x y before ps p = passes_append x y before ps (p ∷ [])

-- a colour for each pass
pub length-passes_at : (x y : ℤ) (before : List Parts) (ps : List (List QuadView))
    → length (passes_at x y before ps) ≡ length before + length ps
length-passes_at x y before [] = omega arith
length-passes_at x y before (p ∷ ps) =
    let next : length (passes_at x y (before ++ quads_over before x y clear p ∷ []) ps) ≡ length (before ++ quads_over before x y clear p ∷ []) + length ps =
    length-passes_at x y (before ++ quads_over before x y clear p ∷ []) ps in
    let long : length (before ++ quads_over before x y clear p ∷ []) ≡ length before + 1 = length-append before (quads_over before x y clear p ∷ []) in
    omega arith

-- the root is the last pass
pub root_last : (x y : ℤ) (below : Parts) (before : List Parts) (inner : List (List QuadView)) (root : List QuadView)
    → root_pixel x y below before (inner ++ root ∷ []) ≡ quads_over (passes_at x y before inner) x y below root
root_last x y below before [] root = refl
root_last x y below before (p ∷ []) root = refl
root_last x y below before (p ∷ (q ∷ more)) root = root_last x y below (before ++ quads_over before x y clear p ∷ []) (q ∷ more) root

pub scene_last : (w h : ℕ) (background : Parts) (inner : List (List QuadView)) (root : List QuadView) (x y : ℤ)
    → scene_pixel (record { w = w; h = h; background = background; passes = inner ++ root ∷ [] }) x y
    ≡ quads_over (passes_at x y [] inner) x y background root
unfolding scene_pixel
scene_last w h background inner root x y = root_last x y background [] inner root

-- what may stand in a pass may stand in a later one
pub fits_later : (w h i j : ℕ) (q : QuadView) → i ≤ j → QuadFits w h i q → QuadFits w h j q
fits_later w h i j (tiled image at from) le f = f
fits_later w h i j (plain at colour) le f = f
fits_later w h i j (grouped pass opacity) le f = omega arith

-- passes after others
pub sound_append : (w h i : ℕ) (ps qs : List (List QuadView)) → AreSound w h i ps → AreSound w h (i + length ps) qs
    → AreSound w h i (ps ++ qs)
sound_append w h i [] qs s t = rw (← add-zero i) t
sound_append w h i (p ∷ ps) qs s t = (s.0, sound_append w h (i + 1) ps qs s.1 (rw (shift i (length ps)) t))
  where
    shift : (i n : ℕ) → (i + 1) + n ≡ i + suc n
    shift i n = omega arith

-- the quads of one pass
pub sound_at : (w h i k : ℕ) (ps : List (List QuadView)) → AreSound w h i ps → k < length ps → All (QuadFits w h (i + k)) (slice_index_or ps k [])
sound_at w h i k [] s lt = absurd (omega arith)
sound_at w h i zero (p ∷ ps) s lt = rw (add-zero i) (s.0)
sound_at w h i (suc k) (p ∷ ps) s lt = rw (← shift i k) (sound_at w h (i + 1) k ps s.1 (omega arith))
  where
    shift : (i n : ℕ) → (i + 1) + n ≡ i + suc n
    shift i n = omega arith
