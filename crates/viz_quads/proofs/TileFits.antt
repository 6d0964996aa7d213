-- The quads of a layer lie on the screen, and show parts of their images.
use Rattle.std.proofs.Common.{ℕ, ℤ, pos, ◌≡◌, ◌+◌, ◌≤◌, ◌<ℤ◌, ◌≤ℤ◌, ◌+ℤ◌, ◌-ℤ◌, int_lt, Bool, true, false, cond, Option, Some, None, List, [], ◌∷◌, map, find, All, refl, ap, sym, ◌∙◌, subst, arith, ◌==◌, eqb-true}
use Rattle.std.specs.Prelude.{IfSome}
use Rattle.std.specs.Int.{int_max, int_min}
use Rattle.std.proofs.lemmas.Int.{ints, clamps}
use Rattle.std.proofs.lemmas.List.Elements.{All-map, All-filter, All-weaker, All-same, All-nil, All-cons, All-head, All-tail, filter_passes}
use Rattle.geom.specs.declared.rect.Point.{Point}
use Rattle.geom.specs.declared.rect.Rect.{Rect}
use Rattle.geom.specs.declared.span.Span.{Span}
use Rattle.geom.specs.declared.tile.Place.{Place}
use Rattle.geom.specs.Common.{common_span, rect_of_spans, spans_meet, meets, common}
use Rattle.geom.specs.Grids.{rect_of_place, places}
use Rattle.geom.proofs.Spans.{both}
use Rattle.page_properties.specs.Placement.{clip_of, draws}
use Rattle.tile_raster.specs.Images.{Image}
use Rattle.page_layers.specs.Layers.{PageLayer, has_id}
use Rattle.page_layers.specs.Pages.{Page, viewport}
use Rattle.page_layers.specs.Sound.{AreDistinctLayers}
use Rattle.tile_visible.specs.Visible.{grid_of, cut_by, seen, visible_places}
use Rattle.tile_priority.specs.Bins.{is_visible}
use Rattle.viz_scene.specs.Sound.{IsIn, IsTaken, QuadFits}
use Rattle.viz_quads.specs.ShownTiles.{PageTile, place_of_tile, own_tiles, IsImageOf, ImageMayStand, AreShownTiles}
use Rattle.viz_quads.specs.inner.LayerQuads.{Spot, spot_of, screen_of, drawn_part, corner, quad_for, quad_of, layer_quads}
use Rattle.viz_quads.proofs.OwnTiles.{own_places}

-- ---- one axis

-- a span inside two others
pub record IsInBoth (a m b n : ℤ) (s : Span) : Type 0 where
  pub first : a ≤ℤ s.at
  pub second : b ≤ℤ s.at
  pub length : pos 0 ≤ℤ s.len
  pub end : (s.at +ℤ s.len) ≤ℤ (a +ℤ m)
  pub other_end : (s.at +ℤ s.len) ≤ℤ (b +ℤ n)

met_span : (a m b n s e : ℤ) → s ≡ int_max a b → e ≡ int_min (a +ℤ m) (b +ℤ n) → int_lt s e ≡ true → IsInBoth a m b n (record { at = s; len = e -ℤ s })
met_span a m b n s e p q h =
    let l : s <ℤ e = grind (arith, ints) in
    record { first = omega (arith, ints, clamps); second = omega (arith, ints, clamps); length = omega (arith, ints); end = omega (arith, ints, clamps); other_end = omega (arith, ints, clamps) }

-- the common span of spans that meet
common_is : (a m b n : ℤ) → spans_meet a m b n ≡ true → (s : Span) × (common_span a m b n ≡ Some s) × IsInBoth a m b n s
unfolding spans_meet common_span
common_is a m b n h = (
  record { at = int_max a b; len = int_min (a +ℤ m) (b +ℤ n) -ℤ int_max a b },
  ap (λ (t : Bool). cond t (Some (record { at = int_max a b; len = int_min (a +ℤ m) (b +ℤ n) -ℤ int_max a b })) None) h,
  met_span a m b n (int_max a b) (int_min (a +ℤ m) (b +ℤ n)) refl refl h,
)

-- ---- rects

-- the common part of rects that meet lies in both
record LiesInBoth (r s c : Rect) : Type 0 where
  pub across : IsInBoth r.x r.w s.x s.w (record { at = c.x; len = c.w })
  pub down : IsInBoth r.y r.h s.y s.h (record { at = c.y; len = c.h })

common_in : (r s : Rect) → meets r s ≡ true → LiesInBoth r s (common r s)
common_in r s h =
    let k = both (spans_meet r.x r.w s.x s.w) (spans_meet r.y r.h s.y s.h) h in
    let x = common_is r.x r.w s.x s.w k.0 in
    let y = common_is r.y r.h s.y s.h k.1 in
    subst (LiesInBoth r s)
    (sym (ap (λ (o : Option Span). rect_of_spans o (common_span r.y r.h s.y s.h)) x.1 ∙ ap (λ (o : Option Span). rect_of_spans (Some x.0) o) y.1))
    (record { across = x.2; down = y.2 })

-- ---- a clip cut by the viewport lies on the screen

InSide : ℕ → Option Span → Type 0
InSide n None = Unit {0}
InSide n (Some s) = (pos 0 ≤ℤ s.at) × (pos 0 ≤ℤ s.len) × ((s.at +ℤ s.len) ≤ℤ pos n)

in_side_by : (n : ℕ) (a m s e : ℤ) (t : Bool) → s ≡ int_max a (pos 0) → e ≡ int_min (a +ℤ m) (pos 0 +ℤ pos n) → int_lt s e ≡ t → InSide n (cond t (Some (record { at = s; len = e -ℤ s })) None)
unfolding InSide
in_side_by n a m s e false p q h = tt
in_side_by n a m s e true p q h =
    let l : s <ℤ e = grind (arith, ints) in (omega (arith, ints, clamps), omega (arith, ints), omega (arith, ints, clamps))

in_side : (n : ℕ) (a m : ℤ) → InSide n (common_span a m (pos 0) (pos n))
unfolding common_span
in_side n a m = in_side_by n a m (int_max a (pos 0)) (int_min (a +ℤ m) (pos 0 +ℤ pos n)) (int_lt (int_max a (pos 0)) (int_min (a +ℤ m) (pos 0 +ℤ pos n))) refl refl refl

spans_in : (w h : ℕ) (o q : Option Span) → InSide w o → InSide h q → IsIn w h (rect_of_spans o q)
unfolding InSide
spans_in w h (Some s) (Some t) i j = record { left = i.0; top = j.0; width = i.1; height = j.1; right = i.2; bottom = j.2 }
spans_in w h (Some s) None i j = record { left = omega (arith, ints); top = omega (arith, ints); width = omega (arith, ints); height = omega (arith, ints); right = omega (arith, ints); bottom = omega (arith, ints) }
spans_in w h None q i j = record { left = omega (arith, ints); top = omega (arith, ints); width = omega (arith, ints); height = omega (arith, ints); right = omega (arith, ints); bottom = omega (arith, ints) }

cut_in : (p : Page) (clip : Option Rect) → IsIn p.view.w p.view.h (cut_by (viewport p) clip)
cut_in p None = record { left = omega (arith, ints); top = omega (arith, ints); width = omega (arith, ints); height = omega (arith, ints); right = omega (arith, ints); bottom = omega (arith, ints) }
cut_in p (Some r) = spans_in p.view.w p.view.h (common_span r.x r.w (pos 0) (pos p.view.w)) (common_span r.y r.h (pos 0) (pos p.view.h)) (in_side p.view.w r.x r.w) (in_side p.view.h r.y r.h)

-- ---- the quads

part_in : (w h : ℕ) (r s c : Rect) → LiesInBoth r s c → IsIn w h s → IsIn w h c
part_in w h r s c i j = record {
  left = omega (arith, ints, i.across.second, j.left);
  top = omega (arith, ints, i.down.second, j.top);
  width = i.across.length;
  height = i.down.length;
  right = omega (arith, ints, i.across.other_end, j.right);
  bottom = omega (arith, ints, i.down.other_end, j.bottom);
}

part_taken : (image : Image) (r s c whole : Rect) → LiesInBoth whole s c → image.rect ≡ r → whole.w ≡ r.w → whole.h ≡ r.h → IsTaken image c (corner c whole)
part_taken image r s c whole i same wide tall =
    let w : image.rect.w ≡ whole.w = ap (λ (q : Rect). q.w) same ∙ sym wide in
    let h : image.rect.h ≡ whole.h = ap (λ (q : Rect). q.h) same ∙ sym tall in
    record {
      left = omega (arith, ints, i.across.first);
      top = omega (arith, ints, i.down.first);
      right = omega (arith, ints, i.across.end, w);
      bottom = omega (arith, ints, i.down.end, h);
    }

quad_fits : (p : Page) (offset : ℕ → Point) (l : PageLayer) (place : Place) (image : Option Image) → IfSome image (λ i. IsImageOf p l place i) → meets (screen_of (spot_of p offset l) place) (spot_of p offset l).clip ≡ true
    → QuadFits p.view.w p.view.h 0 (quad_for image l.colour (drawn_part (spot_of p offset l) place) (screen_of (spot_of p offset l) place))
quad_fits p offset l place None is h =
    let s : Spot = spot_of p offset l in
    part_in p.view.w p.view.h (screen_of s place) s.clip (drawn_part s place) (common_in (screen_of s place) s.clip h) (cut_in p (clip_of offset p.props.transforms p.props.clips l.clip))
quad_fits p offset l place (Some image) is h =
    let s : Spot = spot_of p offset l in
    let i : LiesInBoth (screen_of s place) s.clip (drawn_part s place) = common_in (screen_of s place) s.clip h in (
      part_in p.view.w p.view.h (screen_of s place) s.clip (drawn_part s place) i (cut_in p (clip_of offset p.props.transforms p.props.clips l.clip)),
      part_taken image (rect_of_place (grid_of p l) place) s.clip (drawn_part s place) (screen_of s place) i is.rect refl refl,
    )

-- ---- what holds of the places that a layer shows holds of its tiles

named_all : (P : Place → Type 0) (ts : List PageTile) (qs : List Place) → map place_of_tile ts ≡ qs → All P qs → All (λ t. P (place_of_tile t)) ts
named_all P ts qs is all = go ts (All-same P (map place_of_tile ts) qs is all)
  where
    go : (us : List PageTile) → All P (map place_of_tile us) → All (λ t. P (place_of_tile t)) us
    go [] h = All-nil (λ t. P (place_of_tile t))
    go (u ∷ us) h = All-cons (λ t. P (place_of_tile t)) u us (All-head P (place_of_tile u) (map place_of_tile us) h) (go us (All-tail P (place_of_tile u) (map place_of_tile us) h))

-- two facts of each element
both_all : {A : Type 0} (P Q : A → Type 0) (xs : List A) → All P xs → All Q xs → All (λ x. P x × Q x) xs
both_all P Q xs a b k d lt = (a k d lt, b k d lt)

module _ (p : Page) (offset : ℕ → Point) (ts : List PageTile) (l : PageLayer) (right : AreShownTiles p offset ts) (distinct : AreDistinctLayers p.layers) (found : find (has_id l.id) p.layers ≡ Some l) where
  visible_all : All (λ q. is_visible (seen p offset l q) ≡ true) (visible_places p offset l)
  unfolding visible_places
  visible_all = filter_passes (λ q. is_visible (seen p offset l q)) (places (grid_of p l))

  own_all : All (λ t. is_visible (seen p offset l (place_of_tile t)) ≡ true) (own_tiles l.id ts)
  own_all = named_all (λ q. is_visible (seen p offset l q) ≡ true) (own_tiles l.id ts) (visible_places p offset l) (own_places p offset right.stamp ts l right.keys distinct found) visible_all

  tile_fits : (t : PageTile) → (is_visible (seen p offset l (place_of_tile t)) ≡ true) × (((t.key.layer == l.id) ≡ true) × ImageMayStand p t) → QuadFits p.view.w p.view.h 0 (quad_of (spot_of p offset l) t)
  tile_fits t h =
      quad_fits p offset l (place_of_tile t) t.image (image_of t.image h.1.1)
      (both (draws p.props.effects l.effect) (meets (screen_of (spot_of p offset l) (place_of_tile t)) (spot_of p offset l).clip) h.0).1
    where
      image_of : (image : Option Image) → IfSome image (λ i. (k : PageLayer) → find (has_id t.key.layer) p.layers ≡ Some k → IsImageOf p k (place_of_tile t) i) → IfSome image (λ i. IsImageOf p l (place_of_tile t) i)
      image_of None h = h
      image_of (Some i) f = f l (ap (λ (n : ℕ). find (has_id n) p.layers) (eqb-true t.key.layer l.id h.1.0) ∙ found)

  -- each quad of the layer may stand in any pass
  pub layer_fits : All (QuadFits p.view.w p.view.h 0) (layer_quads p offset ts l)
  layer_fits =
      All-map (QuadFits p.view.w p.view.h 0) (quad_of (spot_of p offset l)) (own_tiles l.id ts)
      (All-weaker (λ t. (is_visible (seen p offset l (place_of_tile t)) ≡ true) × (((t.key.layer == l.id) ≡ true) × ImageMayStand p t)) (λ t. QuadFits p.view.w p.view.h 0 (quad_of (spot_of p offset l) t)) tile_fits (own_tiles l.id ts)
      (both_all (λ t. is_visible (seen p offset l (place_of_tile t)) ≡ true) (λ t. ((t.key.layer == l.id) ≡ true) × ImageMayStand p t) (own_tiles l.id ts) own_all
      (both_all (λ t. (t.key.layer == l.id) ≡ true) (ImageMayStand p) (own_tiles l.id ts) (filter_passes (λ t. t.key.layer == l.id) ts) (All-filter (λ t. t.key.layer == l.id) (ImageMayStand p) ts right.images))))
