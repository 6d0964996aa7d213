-- Of the places that a layer shows, the one that is drawn at a point.
use Rattle.std.proofs.Common.{ℕ, ℤ, ◌≡◌, ◌-ℤ◌, Bool, true, false, cond, ◌&&◌, Option, Some, None, List, [], ◌∷◌, filter, refl, ap, sym, ◌∙◌}
use Rattle.std.proofs.lemmas.List.Elements.{filter_agree}
use Rattle.geom.specs.declared.rect.Point.{Point}
use Rattle.geom.specs.declared.rect.Rect.{Rect}
use Rattle.geom.specs.declared.tile.Place.{Place}
use Rattle.geom.specs.Common.{common, meets}
use Rattle.geom.specs.Covers.{covers}
use Rattle.geom.specs.Grids.{rect_of_place, places, bounds, place_of}
use Rattle.geom.specs.Sides.{IsGrid}
use Rattle.geom.proofs.Spans.{both, common_points}
use Rattle.geom.proofs.Meets.{points_meet}
use Rattle.geom.proofs.Covering.{covering, covering_none}
use Rattle.page_properties.specs.Placement.{clip_of, draws}
use Rattle.page_layers.specs.Layers.{PageLayer}
use Rattle.page_layers.specs.Pages.{Page, viewport}
use Rattle.page_layers.specs.TreePainting.{lets_through, lies_at, point_in, place_at}
use Rattle.page_layers.proofs.Placing.{covers_back}
use Rattle.tile_visible.specs.Visible.{grid_of, cut_by, seen, visible_places}
use Rattle.tile_priority.specs.Bins.{is_visible}
use Rattle.viz_quads.specs.inner.LayerQuads.{Spot, spot_of, screen_of, drawn_part}

-- a narrower filter after a wider one
pub filter_inner : {A : Type 0} (p q : A → Bool) → ((x : A) → p x ≡ true → q x ≡ true) → (xs : List A) → filter p (filter q xs) ≡ filter p xs
filter_inner p q h [] = refl
filter_inner {A} p q h (x ∷ xs) = go (p x) (q x) refl refl (filter_inner p q h xs)
  where
    go : (a b : Bool) → p x ≡ a → q x ≡ b → filter p (filter q xs) ≡ filter p xs → filter p (cond b (x ∷ filter q xs) (filter q xs)) ≡ cond a (x ∷ filter p xs) (filter p xs)
    go true true e f rest = ap (λ (t : Bool). cond t (x ∷ filter p (filter q xs)) (filter p (filter q xs))) e ∙ ap (λ (ys : List A). x ∷ ys) rest
    go false true e f rest = ap (λ (t : Bool). cond t (x ∷ filter p (filter q xs)) (filter p (filter q xs))) e ∙ rest
    go true false e f rest = absurd (let k = h x e in cc)
    go false false e f rest = rest

pub filter_never : {A : Type 0} (p : A → Bool) → ((x : A) → p x ≡ false) → (xs : List A) → filter p xs ≡ []
filter_never p none [] = refl
filter_never {A} p none (x ∷ xs) = ap (λ (b : Bool). cond b (x ∷ filter p xs) (filter p xs)) (none x) ∙ filter_never p none xs

-- rects whose common part covers a point meet
meets_at : (r s : Rect) (x y : ℤ) → covers (common r s) x y ≡ true → meets r s ≡ true
meets_at r s x y h = let k = both (covers r x y) (covers s x y) (sym (common_points r s x y) ∙ h) in points_meet r s (x, y, k.0, k.1)

-- a place is drawn where the clip covers the point, and the place covers the point moved back
pub drawn_at : (s : Spot) (q : Place) (x y : ℤ) → covers (drawn_part s q) x y ≡ covers (rect_of_place s.grid q) (x -ℤ s.by.x) (y -ℤ s.by.y) && covers s.clip x y
drawn_at s q x y = common_points (screen_of s q) s.clip x y ∙ ap (λ (t : Bool). t && covers s.clip x y) (covers_back (rect_of_place s.grid q) s.by x y)

-- at most one place of a grid is drawn at a point
drawn_in : (s : Spot) → IsGrid s.grid → (x y : ℤ) → filter (λ q. covers (drawn_part s q) x y) (places s.grid)
    ≡ cond (covers s.clip x y && covers (bounds s.grid) (x -ℤ s.by.x) (y -ℤ s.by.y)) (place_of s.grid (record { x = x -ℤ s.by.x; y = y -ℤ s.by.y }) ∷ []) []
drawn_in s is x y = go (covers s.clip x y) (covers (bounds s.grid) (x -ℤ s.by.x) (y -ℤ s.by.y)) refl refl
  where
    one : List Place
    one = place_of s.grid (record { x = x -ℤ s.by.x; y = y -ℤ s.by.y }) ∷ []

    and_true : (b : Bool) → b && true ≡ b
    and_true true = refl
    and_true false = refl

    and_false : (b : Bool) → b && false ≡ false
    and_false true = refl
    and_false false = refl

    inside : covers s.clip x y ≡ true → filter (λ q. covers (drawn_part s q) x y) (places s.grid) ≡ filter (λ q. covers (rect_of_place s.grid q) (x -ℤ s.by.x) (y -ℤ s.by.y)) (places s.grid)
    inside h =
        filter_agree (λ q. covers (drawn_part s q) x y) (λ q. covers (rect_of_place s.grid q) (x -ℤ s.by.x) (y -ℤ s.by.y))
        (λ q. drawn_at s q x y ∙ ap (λ (t : Bool). covers (rect_of_place s.grid q) (x -ℤ s.by.x) (y -ℤ s.by.y) && t) h ∙ and_true (covers (rect_of_place s.grid q) (x -ℤ s.by.x) (y -ℤ s.by.y)))
        (places s.grid)

    go : (c b : Bool) → covers s.clip x y ≡ c → covers (bounds s.grid) (x -ℤ s.by.x) (y -ℤ s.by.y) ≡ b → filter (λ q. covers (drawn_part s q) x y) (places s.grid) ≡ cond (c && b) one []
    go true true e f = inside e ∙ covering s.grid is (x -ℤ s.by.x) (y -ℤ s.by.y) f
    go true false e f = inside e ∙ covering_none s.grid is (x -ℤ s.by.x) (y -ℤ s.by.y) f
    go false b e f =
        filter_never (λ q. covers (drawn_part s q) x y)
        (λ q. drawn_at s q x y ∙ ap (λ (t : Bool). covers (rect_of_place s.grid q) (x -ℤ s.by.x) (y -ℤ s.by.y) && t) e ∙ and_false (covers (rect_of_place s.grid q) (x -ℤ s.by.x) (y -ℤ s.by.y)))
        (places s.grid)

-- inside the viewport the cut clip lets through what the clip does
clip_here : (p : Page) (clip : Option Rect) (x y : ℤ) → covers (viewport p) x y ≡ true → covers (cut_by (viewport p) clip) x y ≡ lets_through clip x y
clip_here p None x y h = h
clip_here p (Some r) x y h = common_points r (viewport p) x y ∙ ap (λ (t : Bool). covers r x y && t) h ∙ and_true (covers r x y)
  where
    and_true : (b : Bool) → b && true ≡ b
    and_true true = refl
    and_true false = refl

-- of the places that a layer shows, the one of the layer's point is drawn where the layer lies, and else none
pub drawn_places : (p : Page) (offset : ℕ → Point) (l : PageLayer) (x y : ℤ) → IsGrid (grid_of p l) → draws p.props.effects l.effect ≡ true → covers (viewport p) x y ≡ true
    → filter (λ q. covers (drawn_part (spot_of p offset l) q) x y) (visible_places p offset l)
    ≡ cond (lies_at p offset x y l) (place_at p.view.tile (point_in p offset l x y) ∷ []) []
unfolding visible_places
drawn_places p offset l x y is drawn view =
    let s : Spot = spot_of p offset l in
    filter_inner (λ q. covers (drawn_part s q) x y) (λ q. is_visible (seen p offset l q))
    (λ q h. ap (λ (t : Bool). t && meets (screen_of s q) s.clip) drawn ∙ meets_at (screen_of s q) s.clip x y h)
    (places (grid_of p l))
    ∙ drawn_in s is x y
    ∙ ap (λ (t : Bool). cond (t && covers (bounds s.grid) (x -ℤ s.by.x) (y -ℤ s.by.y)) (place_of s.grid (record { x = x -ℤ s.by.x; y = y -ℤ s.by.y }) ∷ []) [])
    (clip_here p (clip_of offset p.props.transforms p.props.clips l.clip) x y view)
