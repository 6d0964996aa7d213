-- What quads show where none of their groups is seen.
use Rattle.std.proofs.Common.{◌≡◌, ℕ, zero, suc, ◌+◌, ◌<◌, ◌≤◌, ℤ, pos, ◌+ℤ◌, List, [], ◌∷◌, length, drop, get_or, refl, sym, ◌∙◌, ap, subst, add-one, drop-cons, arith}
use Rattle.std.specs.Prelude.{All}
use Rattle.geom.specs.declared.Rect.{Rect}
use Rattle.pixel.specs.Colours.{Parts}
use Rattle.page_display_list.specs.Bitmaps.{near}
use Rattle.viz_scene.specs.declared.Quad.{Quad}
use Rattle.viz_scene.specs.Views.{QuadView, tiled, plain, grouped, quad_view, quads_view}
use Rattle.viz_scene.specs.Pixels.{quad_over, quads_over}
use Rattle.viz_render.specs.inner.Drawing.{CanBeDrawn}
use Rattle.viz_render.specs.inner.Masks.{top, Hides, AreMarked, AreNumbers}
use Rattle.viz_render.specs.inner.Shown.{IsGroup, HaveNoGroup, ShowsNoPass}

-- a tile or a rect shows the same over any passes
own_alike : (ps rs : List Parts) (x y : ℤ) (below : Parts) (q : QuadView) → (IsGroup q → ⊥) → quad_over ps x y below q ≡ quad_over rs x y below q
own_alike ps rs x y below (tiled image at from) own = refl
own_alike ps rs x y below (plain at colour) own = refl
own_alike ps rs x y below (grouped pass opacity) own = absurd (own tt)

none_alike : (quads : List QuadView) (x y : ℤ) → HaveNoGroup quads → ShowsNoPass quads x y
none_alike [] x y own ps rs below = refl
none_alike (q ∷ qs) x y own ps rs below =
    ap (λ (c : Parts). quads_over ps x y c qs) (own_alike ps rs x y below q own.0) ∙ none_alike qs x y own.1 ps rs (quad_over rs x y below q)

-- quads of which one hides what is below it, and from one before it on none is a group
hidden_alike : (quads : List Quad) (n k : ℕ) (x y : ℤ) → n ≤ k → k < length quads → ((q : Quad) → q ≡ get_or quads k q → Hides (quad_view q) x y)
    → HaveNoGroup (quads_view (drop n quads))
    → (ps rs : List Parts) (c d : Parts) → quads_over ps x y c (quads_view quads) ≡ quads_over rs x y d (quads_view quads)
hidden_alike [] n k x y le lt hides own ps rs c d = absurd (omega arith)
hidden_alike (q ∷ qs) zero zero x y le lt hides own ps rs c d =
    ap (λ (b : Parts). quads_over ps x y b (quads_view qs)) (hides q refl ps c d ∙ own_alike ps rs x y d (quad_view q) own.0)
    ∙ none_alike (quads_view qs) x y own.1 ps rs (quad_over rs x y d (quad_view q))
hidden_alike (q ∷ qs) (suc n) zero x y le lt hides own ps rs c d = absurd (omega arith)
hidden_alike (q ∷ qs) zero (suc k) x y le lt hides own ps rs c d =
    hidden_alike qs zero k x y (omega arith) (omega arith) hides own.1 ps rs (quad_over ps x y c (quad_view q)) (quad_over rs x y d (quad_view q))
hidden_alike (q ∷ qs) (suc n) (suc k) x y le lt hides own ps rs c d =
    hidden_alike qs n k x y (omega arith) (omega arith) hides own ps rs (quad_over ps x y c (quad_view q)) (quad_over rs x y d (quad_view q))

-- the same by the number of the quad that hides what is below it
hidden_at : (quads : List Quad) (n t : ℕ) (x y : ℤ) → n < t → t ≤ length quads
    → ((k : ℕ) → t ≡ k + 1 → k < length quads → (q : Quad) → q ≡ get_or quads k q → Hides (quad_view q) x y)
    → HaveNoGroup (quads_view (drop n quads)) → ShowsNoPass (quads_view quads) x y
hidden_at quads n zero x y lt few marked own ps rs below = absurd (omega arith)
hidden_at quads n (suc k) x y lt few marked own ps rs below =
    hidden_alike quads n k x y (omega arith) (omega arith) (marked k (omega arith) (omega arith)) own ps rs below below

-- a pixel at which the last group is hidden
pub group_hidden : (area : Rect) (quads : List Quad) (tops : List ℕ) (last x y : ℕ) → near area.w ≤ 2048 → near area.h ≤ 64 → AreMarked area quads tops
    → AreNumbers (length quads) tops → HaveNoGroup (quads_view (drop last quads)) → x < near area.w → y < near area.h → last < top tops x y
    → ShowsNoPass (quads_view quads) (area.x +ℤ pos x) (area.y +ℤ pos y)
group_hidden area quads tops last x y wide low marked numbers own xw yh hidden =
    hidden_at quads last (top tops x y) (area.x +ℤ pos x) (area.y +ℤ pos y) hidden (numbers x y (omega arith) (omega arith)) (λ k e few. marked x y k xw yh e few) own

-- one quad more that is no group
pub one_more : (quads : List Quad) (left i : ℕ) (q : Quad) → i + 1 ≡ left → i < length quads → q ≡ get_or quads i q → (IsGroup (quad_view q) → ⊥)
    → HaveNoGroup (quads_view (drop left quads)) → HaveNoGroup (quads_view (drop i quads))
one_more quads left i q f lt e own after =
    let here : drop i quads ≡ q ∷ drop left quads =
    drop-cons quads i q lt ∙ ap (λ (r : Quad). r ∷ drop (suc i) quads) (sym e) ∙ ap (λ (n : ℕ). q ∷ drop n quads) (sym (add-one i) ∙ f) in
    subst (λ (qs : List Quad). HaveNoGroup (quads_view qs)) (sym here) (own, after)

-- no quad is after all of them
pub none_after : (quads : List Quad) (n : ℕ) → length quads ≤ n → HaveNoGroup (quads_view (drop n quads))
none_after [] zero le = tt
none_after [] (suc n) le = tt
none_after (q ∷ qs) zero le = absurd (omega arith)
none_after (q ∷ qs) (suc n) le = none_after qs n (omega arith)

-- quads that can be drawn without any passes
pub none_drawable : (n : ℕ) (quads : List QuadView) → n ≤ 0 → All (CanBeDrawn n) quads → HaveNoGroup quads
none_drawable n [] none drawable = tt
none_drawable n (q ∷ qs) none drawable = (no_group n q none (drawable 0 q (omega arith)), none_drawable n qs none (λ i d lt. drawable (suc i) d (omega arith)))
  where
    no_group : (n : ℕ) (q : QuadView) → n ≤ 0 → CanBeDrawn n q → IsGroup q → ⊥
    no_group n (tiled image at from) none drawable is = is
    no_group n (plain at colour) none drawable is = is
    no_group n (grouped pass opacity) none drawable is = absurd (omega arith)
