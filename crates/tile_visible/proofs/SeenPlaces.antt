-- The places that a clip touches, moved back with it, are those whose tiles are seen.
use Rattle.std.proofs.Common.{ℕ, ℤ, pos, ◌≡◌, ◌+◌, ◌*◌, ◌≤◌, ◌&&◌, ◌+ℤ◌, ◌-ℤ◌, ◌≤ℤ◌, int_lt, Bool, true, false, cond, Option, Some, None, List, [], ◌∷◌, filter, refl, ap, sym, ◌∙◌, subst, arith}
use Rattle.std.specs.Prelude.{neg_ℤ, ⊤}
use Rattle.std.specs.Int.{int_max, int_min}
use Rattle.std.proofs.lemmas.Int.{ints, clamps}
use Rattle.geom.specs.declared.rect.Point.{Point}
use Rattle.geom.specs.declared.rect.Rect.{Rect}
use Rattle.geom.specs.declared.span.Span.{Span}
use Rattle.geom.specs.declared.tile.Place.{Place}
use Rattle.geom.specs.Common.{common_span, rect_of_spans, spans_meet, meets}
use Rattle.geom.specs.Covers.{IsSound}
use Rattle.geom.specs.Gaps.{shifted}
use Rattle.geom.specs.Grids.{rect_of_place, places, places_touching}
use Rattle.page_properties.specs.Placement.{translation, clip_of, draws, IsWithin}
use Rattle.page_layers.specs.declared.view.View.{View}
use Rattle.page_layers.specs.Layers.{PageLayer}
use Rattle.page_layers.specs.Pages.{Page, IsView, viewport}
use Rattle.tile_visible.specs.Visible.{grid_of, cut_by, visible_places}

-- ---- a clip cut by a viewport

-- a span inside the first `n` numbers, if there is one
abbrev IsPart : ℕ → Option Span → Type 0
IsPart n None = ⊤
IsPart n (Some s) = (pos 0 ≤ℤ s.at) × (s.at ≤ℤ pos n) × (pos 0 ≤ℤ s.len) × (s.len ≤ℤ pos n)

part_by : (n : ℕ) (s e : ℤ) (t : Bool) → int_lt s e ≡ t → pos 0 ≤ℤ s → e ≤ℤ pos n → IsPart n (cond t (Some (record { at = s; len = e -ℤ s })) None)
part_by n s e false h low high = tt
part_by n s e true h low high =
    let some : s ≤ℤ e = grind (arith, ints, h) in
    (low, omega (arith, ints, some, high), omega (arith, ints, some), omega (arith, ints, low, high))

part : (n : ℕ) (a m : ℤ) → IsPart n (common_span a m (pos 0) (pos n))
unfolding common_span
part n a m = part_by n (int_max a (pos 0)) (int_min (a +ℤ m) (pos 0 +ℤ pos n)) _ refl (omega (arith, ints, clamps)) (omega (arith, ints, clamps))

-- a rect inside a square of 2048
record IsSmall (r : Rect) : Type 0 where
  pub left : pos 0 ≤ℤ r.x
  pub right : r.x ≤ℤ pos 2048
  pub upper : pos 0 ≤ℤ r.y
  pub lower : r.y ≤ℤ pos 2048
  pub w_low : pos 0 ≤ℤ r.w
  pub w_high : r.w ≤ℤ pos 2048
  pub h_low : pos 0 ≤ℤ r.h
  pub h_high : r.h ≤ℤ pos 2048

small_spans : (w h : ℕ) (o q : Option Span) → w ≤ 2048 → h ≤ 2048 → IsPart w o → IsPart h q → IsSmall (rect_of_spans o q)
small_spans w h None q ws hs i j = record { left = omega (arith, ints); right = omega (arith, ints); upper = omega (arith, ints); lower = omega (arith, ints); w_low = omega (arith, ints); w_high = omega (arith, ints); h_low = omega (arith, ints); h_high = omega (arith, ints) }
small_spans w h (Some s) None ws hs i j = record { left = omega (arith, ints); right = omega (arith, ints); upper = omega (arith, ints); lower = omega (arith, ints); w_low = omega (arith, ints); w_high = omega (arith, ints); h_low = omega (arith, ints); h_high = omega (arith, ints) }
small_spans w h (Some s) (Some t) ws hs i j = record { left = i.0; right = omega (arith, ints, i.1, ws); upper = j.0; lower = omega (arith, ints, j.1, hs); w_low = i.2; w_high = omega (arith, ints, i.3, ws); h_low = j.2; h_high = omega (arith, ints, j.3, hs) }

small_cut : (v : View) (clip : Option Rect) → IsView v → IsSmall (cut_by (record { x = pos 0; y = pos 0; w = pos v.w; h = pos v.h }) clip)
small_cut v None is = record { left = omega (arith, ints); right = omega (arith, ints); upper = omega (arith, ints); lower = omega (arith, ints); w_low = omega (arith, ints); w_high = omega (arith, ints, is.w_high); h_low = omega (arith, ints); h_high = omega (arith, ints, is.h_high) }
small_cut v (Some r) is = small_spans v.w v.h (common_span r.x r.w (pos 0) (pos v.w)) (common_span r.y r.h (pos 0) (pos v.h)) is.w_high is.h_high (part v.w r.x r.w) (part v.h r.y r.h)

-- and it is sound too when it is moved back by a translation
pub back_sound : (v : View) (clip : Option Rect) (r : Rect) (by : Point) → IsView v → r ≡ cut_by (record { x = pos 0; y = pos 0; w = pos v.w; h = pos v.h }) clip → IsWithin (256 * 1114112) by
    → IsSound (shifted r (record { x = neg_ℤ by.x; y = neg_ℤ by.y }))
back_sound v clip r by is same near =
    let s : IsSmall r = subst IsSmall (sym same) (small_cut v clip is) in
    record {
      across = record { from_low = omega (arith, ints, s.left, near.right); from_high = omega (arith, ints, s.right, near.left); length_low = s.w_low; length_high = omega (arith, ints, s.w_high) };
      down = record { from_low = omega (arith, ints, s.upper, near.lower); from_high = omega (arith, ints, s.lower, near.upper); length_low = s.h_low; length_high = omega (arith, ints, s.h_high) };
    }

-- ---- moving one rect or the other back

same_order : (s e t u d : ℤ) → s ≡ t +ℤ d → e ≡ u +ℤ d → int_lt s e ≡ int_lt t u
same_order s e t u d i j = grind (arith, ints)

spans_back : (a m b n d : ℤ) → spans_meet (a +ℤ d) m b n ≡ spans_meet a m (b +ℤ neg_ℤ d) n
unfolding spans_meet
spans_back a m b n d =
    same_order (int_max (a +ℤ d) b) (int_min ((a +ℤ d) +ℤ m) (b +ℤ n)) (int_max a (b +ℤ neg_ℤ d)) (int_min (a +ℤ m) ((b +ℤ neg_ℤ d) +ℤ n)) d
    (omega (arith, ints, clamps)) (omega (arith, ints, clamps))

-- a moved rect meets another where the rect meets the other moved back
meets_back : (r c : Rect) (by : Point) → meets (shifted r by) c ≡ meets r (shifted c (record { x = neg_ℤ by.x; y = neg_ℤ by.y }))
meets_back r c by =
    ap (λ (t : Bool). t && spans_meet (r.y +ℤ by.y) r.h c.y c.h) (spans_back r.x r.w c.x c.w by.x)
    ∙ ap (λ (t : Bool). spans_meet r.x r.w (c.x +ℤ neg_ℤ by.x) c.w && t) (spans_back r.y r.h c.y c.h by.y)

-- ---- the places

filter_alike : {A : Type 0} (p q : A → Bool) → ((x : A) → p x ≡ q x) → (xs : List A) → filter p xs ≡ filter q xs
filter_alike p q same [] = refl
filter_alike {A} p q same (x ∷ xs) = ap (λ (b : Bool). cond b (x ∷ filter p xs) (filter p xs)) (same x) ∙ ap (λ (ys : List A). cond (q x) (x ∷ ys) ys) (filter_alike p q same xs)

filter_none : {A : Type 0} (p : A → Bool) → ((x : A) → p x ≡ false) → (xs : List A) → filter p xs ≡ []
filter_none p none [] = refl
filter_none {A} p none (x ∷ xs) = ap (λ (b : Bool). cond b (x ∷ filter p xs) (filter p xs)) (none x) ∙ filter_none p none xs

-- a layer that is not drawn has no visible place
pub none_seen : (p : Page) (offset : ℕ → Point) (l : PageLayer) → draws p.props.effects l.effect ≡ false → visible_places p offset l ≡ []
unfolding visible_places
none_seen p offset l hidden =
    filter_none (λ (place : Place). draws p.props.effects l.effect && meets (shifted (rect_of_place (grid_of p l) place) (translation offset p.props.transforms l.transform)) (cut_by (viewport p) (clip_of offset p.props.transforms p.props.clips l.clip)))
    (λ place. ap (λ (b : Bool). b && meets (shifted (rect_of_place (grid_of p l) place) (translation offset p.props.transforms l.transform)) (cut_by (viewport p) (clip_of offset p.props.transforms p.props.clips l.clip))) hidden)
    (places (grid_of p l))

-- the places that the clip, moved back, touches
pub touched_seen : (p : Page) (offset : ℕ → Point) (l : PageLayer) (clip : Rect) (by : Point) → draws p.props.effects l.effect ≡ true
    → clip ≡ cut_by (viewport p) (clip_of offset p.props.transforms p.props.clips l.clip) → by ≡ translation offset p.props.transforms l.transform
    → places_touching (grid_of p l) (shifted clip (record { x = neg_ℤ by.x; y = neg_ℤ by.y })) ≡ visible_places p offset l
unfolding visible_places places_touching
touched_seen p offset l clip by drawn cut moved =
    filter_alike (λ (place : Place). meets (rect_of_place (grid_of p l) place) (shifted clip (record { x = neg_ℤ by.x; y = neg_ℤ by.y })))
    (λ (place : Place). draws p.props.effects l.effect && meets (shifted (rect_of_place (grid_of p l) place) (translation offset p.props.transforms l.transform)) (cut_by (viewport p) (clip_of offset p.props.transforms p.props.clips l.clip)))
    (λ place.
    sym (meets_back (rect_of_place (grid_of p l) place) clip by)
    ∙ ap (λ (q : Point). meets (shifted (rect_of_place (grid_of p l) place) q) clip) moved
    ∙ ap (λ (c : Rect). meets (shifted (rect_of_place (grid_of p l) place) (translation offset p.props.transforms l.transform)) c) cut
    ∙ ap (λ (b : Bool). b && meets (shifted (rect_of_place (grid_of p l) place) (translation offset p.props.transforms l.transform)) (cut_by (viewport p) (clip_of offset p.props.transforms p.props.clips l.clip))) (sym drawn))
    (places (grid_of p l))
