-- Passes, one more at a time.
use Rattle.std.proofs.Common.{◌≡◌, ℕ, ◌+◌, ◌<◌, ◌≤◌, ℤ, false, List, [], ◌∷◌, ◌++◌, length, get_or, take, refl, sym, ◌∙◌, ap, subst, arith, inl, inr}
use Rattle.std.specs.Prelude.{All, slice_index_or, ◌⊎◌}
use Rattle.std.proofs.lemmas.Bool.{cases_lt}
use Rattle.std.proofs.lemmas.List.{get_or_append_left, get_or_push, get_or_past, length-append, length-map, take_all, take_more, get_or-map, length-take-le}
use Rattle.std.proofs.lemmas.List.Elements.{All-weaker, All-append}
use Rattle.std.proofs.lemmas.Int.{ints}
use Rattle.geom.specs.declared.Rect.{Rect}
use Rattle.geom.specs.Covers.{covers}
use Rattle.geom.specs.Common.{empty_rect}
use Rattle.region.specs.Points.{covered}
use Rattle.pixel.specs.Colours.{Parts, clear}
use Rattle.viz_scene.specs.declared.RenderPass.{RenderPass}
use Rattle.viz_scene.specs.Views.{QuadView, tiled, plain, grouped, quads_view, pass_view, passes_view, SceneView}
use Rattle.viz_scene.specs.Pixels.{quads_over, passes_at, root_pixel, scene_pixel}
use Rattle.viz_scene.specs.Sound.{IsIn, QuadFits, AreSound, IsSceneSide}
use Rattle.viz_scene.proofs.Steps.{passes_push, length-passes_at, sound_at}
use Rattle.viz_damage.specs.Damage.{AreAlikeOutside}
use Rattle.viz_scene.specs.Areas.{IsOnScreen}
use Rattle.viz_damage.specs.inner.Areas.{HoldAll}
use Rattle.viz_damage.proofs.AreaSteps.{one_on_screen}
use Rattle.viz_damage.specs.inner.Alike.{AlikeAt, ClearOutside, ActWithin, DifferWithin, PassesAlike}

pub alike_more : (x y : ℤ) (before : List Parts) (ps qs : List (List QuadView)) (p q : List QuadView) → PassesAlike x y before ps qs
    → AlikeAt (passes_at x y before ps) x y p q → PassesAlike x y before (ps ++ p ∷ []) (qs ++ q ∷ [])
alike_more x y before [] [] p q h k = (k, tt)
alike_more x y before [] (r ∷ rs) p q h k = absurd h
alike_more x y before (s ∷ ss) [] p q h k = absurd h
alike_more x y before (s ∷ ss) (r ∷ rs) p q h k = (h.0, alike_more x y (before ++ quads_over before x y clear s ∷ []) ss rs p q h.1 k)

same_root : (x y : ℤ) (below : Parts) (before : List Parts) (ps qs : List (List QuadView)) → PassesAlike x y before ps qs
    → root_pixel x y below before ps ≡ root_pixel x y below before qs
same_root x y below before [] [] h = refl
same_root x y below before [] (q ∷ qs) h = absurd h
same_root x y below before (p ∷ ps) [] h = absurd h
same_root x y below before (p ∷ []) (q ∷ []) h = h.0 below
same_root x y below before (p ∷ []) (q ∷ (r ∷ rs)) h = absurd h.1
same_root x y below before (p ∷ (s ∷ ss)) (q ∷ []) h = absurd h.1
same_root x y below before (p ∷ (s ∷ ss)) (q ∷ (r ∷ rs)) h =
    same_root x y below (before ++ quads_over before x y clear p ∷ []) (s ∷ ss) (r ∷ rs) h.1
    ∙ ap (λ (c : Parts). root_pixel x y below (before ++ c ∷ []) (r ∷ rs)) (h.0 clear)

-- scenes whose passes are alike outside a region
pub scenes_alike : (s t : SceneView) (region rects : List Rect) → s.background ≡ t.background
    → ((x y : ℤ) → covered region x y ≡ covered rects x y)
    → ((x y : ℤ) → covered rects x y ≡ false → PassesAlike x y [] s.passes t.passes) → AreAlikeOutside region s t
unfolding scene_pixel
scenes_alike s t region rects e same alike x y seen out =
    same_root x y s.background [] s.passes t.passes (alike x y (sym (same x y) ∙ out))
    ∙ ap (λ (c : Parts). root_pixel x y c [] t.passes) e

-- a rect on a screen lies on the largest one
on_screen : (w h : ℕ) (at : Rect) → IsSceneSide w → IsSceneSide h → IsIn w h at → IsOnScreen at
on_screen w h at wide tall i = record {
  left = i.left;
  top = i.top;
  width = i.width;
  height = i.height;
  right = omega (arith, ints);
  bottom = omega (arith, ints);
}

-- what may stand in a scene may stand in one of the largest size
fits_wide : (w h i : ℕ) (q : QuadView) → IsSceneSide w → IsSceneSide h → QuadFits w h i q → QuadFits 2048 2048 i q
fits_wide w h i (tiled image at from) wide tall f = (on_screen w h at wide tall f.0, f.1)
fits_wide w h i (plain at colour) wide tall f = on_screen w h at wide tall f
fits_wide w h i (grouped pass opacity) wide tall f = f

pub sound_wide : (w h i : ℕ) (ps : List (List QuadView)) → IsSceneSide w → IsSceneSide h → AreSound w h i ps → AreSound 2048 2048 i ps
sound_wide w h i [] wide tall s = tt
sound_wide w h i (p ∷ ps) wide tall s =
    (All-weaker (QuadFits w h i) (QuadFits 2048 2048 i) (λ q. fits_wide w h i q wide tall) p s.0, sound_wide w h (i + 1) ps wide tall s.1)

-- the quads of one pass
pub pass_fits : (passes : List RenderPass) (i n : ℕ) (p : RenderPass) → AreSound 2048 2048 0 (passes_view passes) → i < length passes → p ≡ get_or passes i p → n ≡ i
    → All (QuadFits 2048 2048 n) (quads_view p.quads.items)
pass_fits passes i n p sound lt e f =
    let long : length (passes_view passes) ≡ length passes = length-map passes pass_view in
    let here : get_or (passes_view passes) i [] ≡ pass_view p = get_or-map pass_view passes i p [] lt ∙ ap pass_view (sym e) in
    let fits = sound_at 2048 2048 0 i (passes_view passes) sound (omega arith) in
    let plus : 0 + i ≡ n = omega arith in
    subst (λ (k : ℕ). All (QuadFits 2048 2048 k) (quads_view p.quads.items)) plus (subst (All (QuadFits 2048 2048 (0 + i))) here fits)

-- one more pass
pub passes_more : (passes : List RenderPass) (i : ℕ) (p : RenderPass) → i < length passes → p ≡ get_or passes i p
    → take (i + 1) (passes_view passes) ≡ take i (passes_view passes) ++ pass_view p ∷ []
passes_more passes i p lt e =
    let long : length (passes_view passes) ≡ length passes = length-map passes pass_view in
    take_more (passes_view passes) i (pass_view p) (omega arith)
    ∙ ap (λ (v : List QuadView). take i (passes_view passes) ++ v ∷ []) (get_or-map pass_view passes i p (pass_view p) lt ∙ ap pass_view (sym e))

-- the passes so far: their damage, and their reaches
pub record AreCompared (old new : List (List QuadView)) (reaches damage : List Rect) : Type 0 where
  pub alike : (x y : ℤ) → covered damage x y ≡ false → PassesAlike x y [] old new
  pub clears : (x y : ℤ) → ClearOutside reaches (passes_at x y [] old) x y
  pub count : length reaches ≡ length old
  pub on_screen : All IsOnScreen reaches
  pub damaged : All IsOnScreen damage

-- the colours of one more pass
clears_more : (x y : ℤ) (reaches : List Rect) (reach : Rect) (colours : List Parts) (c : Parts) → length reaches ≡ length colours
    → ClearOutside reaches colours x y → (covers reach x y ≡ false → c ≡ clear) → ClearOutside (reaches ++ reach ∷ []) (colours ++ c ∷ []) x y
clears_more x y reaches reach colours c count before here p out =
    elim (cases_lt p (length reaches)) as (λ _. slice_index_or (colours ++ c ∷ []) p clear ≡ clear) [
      | inl low ↦
          get_or_append_left colours (c ∷ []) clear p (omega arith)
          ∙ before p (ap (λ (r : Rect). covers r x y) (sym (get_or_append_left reaches (reach ∷ []) empty_rect p low)) ∙ out)
      | inr high ↦ last (cases_lt (length reaches) p) high
    ]
  where
    last : (length reaches < p) ⊎ (p ≤ length reaches) → length reaches ≤ p → slice_index_or (colours ++ c ∷ []) p clear ≡ clear
    last (inl past) le =
        let long = length-append colours (c ∷ []) in
        get_or_past (colours ++ c ∷ []) p clear (omega arith)
    last (inr at_most) le =
        let e : length reaches ≡ p = omega arith in
        let f : length colours ≡ p = omega arith in
        get_or_push colours c clear p f
        ∙ here (ap (λ (r : Rect). covers r x y) (sym (get_or_push reaches reach empty_rect p e)) ∙ out)

pub compared_more : (old new : List RenderPass) (i : ℕ) (p q : RenderPass) (reaches damage more : List Rect) (reach : Rect)
    → i < length old → i < length new → p ≡ get_or old i p → q ≡ get_or new i q
    → AreCompared (take i (passes_view old)) (take i (passes_view new)) reaches damage
    → HoldAll more damage → All IsOnScreen more → IsOnScreen reach
    → DifferWithin reaches more (pass_view p) (pass_view q) → ActWithin reaches (reach ∷ []) (pass_view p)
    → AreCompared (take (i + 1) (passes_view old)) (take (i + 1) (passes_view new)) (reaches ++ reach ∷ []) more
compared_more old new i p q reaches damage more reach lt less e f so holds sound inside differ within =
    let first = passes_more old i p lt e in
    let second = passes_more new i q less f in
    let ps = take i (passes_view old) in
    let qs = take i (passes_view new) in
    let long = length-append reaches (reach ∷ []) in
    let many = length-append ps (pass_view p ∷ []) in
    let count = so.count in
    rw (first, second) (record {
      alike = λ x y out.
          alike_more x y [] ps qs (pass_view p) (pass_view q) (so.alike x y (holds x y out))
          (λ below. differ x y out (passes_at x y [] ps) (so.clears x y) below);
      clears = λ x y.
          rw (passes_push x y [] ps (pass_view p))
          (clears_more x y reaches reach (passes_at x y [] ps) (quads_over (passes_at x y [] ps) x y clear (pass_view p))
          (so.count ∙ sym (counted x y ps)) (so.clears x y)
          (λ h. within x y (alone x y h) (passes_at x y [] ps) (so.clears x y) clear));
      count = omega arith;
      on_screen = All-append IsOnScreen reaches (reach ∷ []) so.on_screen (one_on_screen reach inside);
      damaged = sound;
    })
  where
    counted : (x y : ℤ) (ps : List (List QuadView)) → length (passes_at x y [] ps) ≡ length ps
    counted x y ps = length-passes_at x y [] ps ∙ none (length ps)
      where
        none : (n : ℕ) → 0 + n ≡ n
        none n = omega arith

    alone : (x y : ℤ) → covers reach x y ≡ false → covered (reach ∷ []) x y ≡ false
    alone x y h = rw h refl

pub compared_none : (old new : List (List QuadView)) → AreCompared (take 0 old) (take 0 new) [] []
compared_none old new = record {
  alike = λ x y out. tt;
  clears = λ x y p out. refl;
  count = refl;
  on_screen = λ k d lt. absurd (omega arith);
  damaged = λ k d lt. absurd (omega arith);
}

pub compared_all : (old new : List RenderPass) (i : ℕ) (reaches damage : List Rect) → length old ≤ i → length new ≤ i
    → AreCompared (take i (passes_view old)) (take i (passes_view new)) reaches damage → AreCompared (passes_view old) (passes_view new) reaches damage
compared_all old new i reaches damage le less so =
    let long : length (passes_view old) ≡ length old = length-map old pass_view in
    let many : length (passes_view new) ≡ length new = length-map new pass_view in
    subst (λ (ps : List (List QuadView)). AreCompared ps (passes_view new) reaches damage) (take_all i (passes_view old) (omega arith))
    (subst (λ (qs : List (List QuadView)). AreCompared (take i (passes_view old)) qs reaches damage) (take_all i (passes_view new) (omega arith)) so)

-- as many reaches as passes
pub so_many : (passes : List RenderPass) (i n : ℕ) → i < length passes → n ≡ length (take i (passes_view passes)) → n ≡ i
so_many passes i n lt e =
    let long : length (passes_view passes) ≡ length passes = length-map passes pass_view in
    e ∙ length-take-le i (passes_view passes) (omega arith)
