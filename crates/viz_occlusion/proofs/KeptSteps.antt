-- Quads that are kept, and what they show.
use Rattle.std.proofs.Common.{◌≡◌, inl, inr, ℕ, zero, suc, ◌+◌, ◌<◌, ℤ, Bool, true, false, cond, List, [], ◌∷◌, ◌++◌, length, get_or, take, drop, refl, sym, ◌∙◌, ap, subst, add-one, drop-cons, arith}
use Rattle.std.specs.Prelude.{All, reverse, slice_index_or}
use Rattle.std.proofs.lemmas.List.{reverse-append, get_or-map, get_or_default, length-map, map-append, take_more}
use Rattle.std.proofs.lemmas.List.Elements.{All-weaker}
use Rattle.geom.specs.declared.Rect.{Rect}
use Rattle.geom.specs.Covers.{covers}
use Rattle.pixel.specs.Colours.{Parts, blend, clear}
use Rattle.viz_scene.specs.declared.Quad.{Quad}
use Rattle.viz_scene.specs.declared.RenderPass.{RenderPass}
use Rattle.viz_scene.specs.Views.{QuadView, tiled, plain, grouped, quad_view, quads_view, pass_view, passes_view, SceneView}
use Rattle.viz_scene.specs.Pixels.{placed_pixel, quad_over, quads_over, root_pixel, scene_pixel}
use Rattle.viz_scene.specs.Opaque.{IsCovered, IsHidden}
use Rattle.viz_scene.specs.Sound.{IsIn, QuadFits, AreSound, IsSceneSide, IsScene}
use Rattle.viz_scene.proofs.Hiding.{hidden_drops}
use Rattle.viz_scene.proofs.Steps.{sound_at}
use Rattle.std.proofs.lemmas.Int.{ints}
use Rattle.viz_scene.specs.Areas.{IsOnScreen}
use Rattle.viz_occlusion.specs.Culled.{IsKeptAs, AreKept, AreAllKept, IsCulled}
use Rattle.viz_occlusion.specs.inner.Bands.{InBand, has_point}
use Rattle.viz_occlusion.specs.inner.Cover.{IsCover, IsFit, HidesNothing, IsPassed}
use Rattle.viz_occlusion.proofs.AlphaSteps.{solid_placed}

-- a quad that hides nothing adds nothing
pub cover_kept : (q : QuadView) (later : List QuadView) (bands : List (List Rect)) → HidesNothing q → IsCover later bands → IsCover (q ∷ later) bands
cover_kept q later bands hides is = record { sound = λ k x y row h. inr (is.sound k x y row h); whole = whole }
  where
    whole : (k : ℕ) (x y : ℤ) → InBand k y → IsCovered x y (q ∷ later) → has_point bands k x y ≡ true
    whole k x y row (inl here) = absurd (hides x y here.0 here.1)
    whole k x y row (inr there) = is.whole k x y row there

pub passed_kept : (q : QuadView) (r : Quad) (old new : List (List Rect)) (kept more : List Quad) → more ≡ kept ++ r ∷ [] → IsKeptAs q (quad_view r)
    → ((later : List QuadView) → IsCover later old → IsHidden q later → ⊥) → ((later : List QuadView) → IsCover later old → IsCover (q ∷ later) new)
    → IsPassed q old new kept more
passed_kept q r old new kept more e as_is seen grown = record {
  cover = grown;
  kept = λ later is k. subst (λ (rs : List Quad). AreKept (q ∷ later) (quads_view rs)) (sym turned) (inr (seen later is, as_is, k));
}
  where
    turned : reverse more ≡ r ∷ reverse kept
    turned = ap reverse e ∙ reverse-append kept (r ∷ [])

-- the quads from a place on
pub view_from : (quads : List Quad) (i : ℕ) (q : Quad) → i < length quads → q ≡ get_or quads i q
    → quads_view (drop i quads) ≡ quad_view q ∷ quads_view (drop (i + 1) quads)
view_from quads i q lt e =
    ap quads_view (drop-cons quads i q lt ∙ ap (λ (r : Quad). r ∷ drop (suc i) quads) (sym e) ∙ ap (λ (n : ℕ). q ∷ drop n quads) (sym (add-one i)))

pub fit_at : (quads : List Quad) (i : ℕ) (q : Quad) → All IsFit (quads_view quads) → i < length quads → q ≡ get_or quads i q → IsFit (quad_view q)
fit_at quads i q all lt e =
    let long : length (quads_view quads) ≡ length quads = length-map quads quad_view in
    let here : get_or (quads_view quads) i (quad_view q) ≡ quad_view q = get_or-map quad_view quads i q (quad_view q) lt ∙ ap quad_view (sym e) in
    subst IsFit here (all i (quad_view q) (omega arith))

-- the first of a list, and the others
head_of : (P : QuadView → Type 0) (q : QuadView) (qs : List QuadView) → All P (q ∷ qs) → P q
head_of P q qs all = all zero q (omega arith)

tail_of : (P : QuadView → Type 0) (q : QuadView) (qs : List QuadView) → All P (q ∷ qs) → All P qs
tail_of P q qs all k d lt = all (suc k) d (omega arith)

both_of : (P : QuadView → Type 0) (q : QuadView) (qs : List QuadView) → P q → All P qs → All P (q ∷ qs)
both_of P q qs p all zero d lt = p
both_of P q qs p all (suc k) d lt = all k d (omega arith)

-- what is kept shows the same
kept_shows : (q r : QuadView) → IsFit q → IsKeptAs q r → (passes : List Parts) (x y : ℤ) (below : Parts)
    → quad_over passes x y below r ≡ quad_over passes x y below q
kept_shows (tiled image at from) r fit (inl same) passes x y below = ap (quad_over passes x y below) same.1
kept_shows (tiled image at from) r fit (inr one) passes x y below =
    ap (quad_over passes x y below) one.2 ∙ sym (where_lies (covers at x y) (placed_pixel image at from x y) one.0 below (solid_placed image at from one.0 x y fit.0 fit.1 one.1))
  where
    where_lies : (t : Bool) (c d below : Parts) → (t ≡ true → c ≡ d) → cond t (blend below c) below ≡ cond t (blend below d) below
    where_lies true c d below h = ap (blend below) (h refl)
    where_lies false c d below h = refl
kept_shows (plain at colour) r fit same passes x y below = ap (quad_over passes x y below) same
kept_shows (grouped pass opacity) r fit same passes x y below = ap (quad_over passes x y below) same

all_show : (qs rs : List QuadView) → All IsFit qs → AreKept qs rs → (passes : List Parts) (x y : ℤ) (below : Parts)
    → quads_over passes x y below rs ≡ quads_over passes x y below qs
all_show [] [] fit k passes x y below = refl
all_show [] (r ∷ rs) fit k passes x y below = absurd k
all_show (q ∷ qs) [] fit k passes x y below =
    all_show qs [] (tail_of IsFit q qs fit) k.1 passes x y below ∙ sym (hidden_drops q qs k.0 passes x y below)
all_show (q ∷ qs) (r ∷ rs) fit (inl gone) passes x y below =
    all_show qs (r ∷ rs) (tail_of IsFit q qs fit) gone.1 passes x y below ∙ sym (hidden_drops q qs gone.0 passes x y below)
all_show (q ∷ qs) (r ∷ rs) fit (inr stays) passes x y below =
    ap (λ (c : Parts). quads_over passes x y c rs) (kept_shows q r (head_of IsFit q qs fit) stays.1 passes x y below)
    ∙ all_show qs rs (tail_of IsFit q qs fit) stays.2 passes x y (quad_over passes x y below q)

-- and fits as before
kept_fits : (w h i : ℕ) (q r : QuadView) → QuadFits w h i q → IsKeptAs q r → QuadFits w h i r
kept_fits w h i (tiled image at from) r f (inl same) = subst (QuadFits w h i) (sym same.1) f
kept_fits w h i (tiled image at from) r f (inr one) = subst (QuadFits w h i) (sym one.2) f.0
kept_fits w h i (plain at colour) r f same = subst (QuadFits w h i) (sym same) f
kept_fits w h i (grouped pass opacity) r f same = subst (QuadFits w h i) (sym same) f

all_fit : (w h i : ℕ) (qs rs : List QuadView) → All (QuadFits w h i) qs → AreKept qs rs → All (QuadFits w h i) rs
all_fit w h i [] [] f k = f
all_fit w h i [] (r ∷ rs) f k = absurd k
all_fit w h i (q ∷ qs) [] f k = all_fit w h i qs [] (tail_of (QuadFits w h i) q qs f) k.1
all_fit w h i (q ∷ qs) (r ∷ rs) f (inl gone) = all_fit w h i qs (r ∷ rs) (tail_of (QuadFits w h i) q qs f) gone.1
all_fit w h i (q ∷ qs) (r ∷ rs) f (inr stays) =
    both_of (QuadFits w h i) r rs (kept_fits w h i q r (head_of (QuadFits w h i) q qs f) stays.1) (all_fit w h i qs rs (tail_of (QuadFits w h i) q qs f) stays.2)

-- passes
pub passes_fit : (w h i : ℕ) (ps rs : List (List QuadView)) → AreSound w h i ps → AreAllKept ps rs → AreSound w h i rs
passes_fit w h i [] [] s k = tt
passes_fit w h i [] (r ∷ rs) s k = absurd k
passes_fit w h i (p ∷ ps) [] s k = absurd k
passes_fit w h i (p ∷ ps) (r ∷ rs) s k = (all_fit w h i p r s.0 k.0, passes_fit w h (i + 1) ps rs s.1 k.1)

pub as_many : (ps rs : List (List QuadView)) → AreAllKept ps rs → length rs ≡ length ps
as_many [] [] k = refl
as_many [] (r ∷ rs) k = absurd k
as_many (p ∷ ps) [] k = absurd k
as_many (p ∷ ps) (r ∷ rs) k = ap suc (as_many ps rs k.1)

fit_in : (w h i : ℕ) → IsSceneSide w → IsSceneSide h → (q : QuadView) → QuadFits w h i q → IsFit q
fit_in w h i wide tall (tiled image at from) f = (on_screen w h at wide tall f.0, f.1)
  where
    on_screen : (w h : ℕ) (at : Rect) → IsSceneSide w → IsSceneSide h → IsIn w h at → IsOnScreen at
    on_screen w h at wide tall i =
        record { left = i.left; top = i.top; width = i.width; height = i.height; right = omega (arith, ints); bottom = omega (arith, ints) }
fit_in w h i wide tall (plain at colour) f =
    record { left = f.left; top = f.top; width = f.width; height = f.height; right = omega (arith, ints); bottom = omega (arith, ints) }
fit_in w h i wide tall (grouped pass opacity) f = tt

-- a pass over a colour, and the colours of the passes
over_same : (w h i : ℕ) → IsSceneSide w → IsSceneSide h → (p r : List QuadView) → All (QuadFits w h i) p → AreKept p r → (passes : List Parts) (x y : ℤ) (below : Parts)
    → quads_over passes x y below r ≡ quads_over passes x y below p
over_same w h i wide tall p r f k = all_show p r (All-weaker (QuadFits w h i) IsFit (fit_in w h i wide tall) p f) k

same_root : (w h i : ℕ) → IsSceneSide w → IsSceneSide h → (x y : ℤ) (below : Parts) (before : List Parts) (ps rs : List (List QuadView)) → AreSound w h i ps
    → AreAllKept ps rs → root_pixel x y below before rs ≡ root_pixel x y below before ps
same_root w h i wide tall x y below before [] [] s k = refl
same_root w h i wide tall x y below before [] (r ∷ rs) s k = absurd k
same_root w h i wide tall x y below before (p ∷ ps) [] s k = absurd k
same_root w h i wide tall x y below before (p ∷ []) (r ∷ []) s k = over_same w h i wide tall p r s.0 k.0 before x y below
same_root w h i wide tall x y below before (p ∷ []) (r ∷ (t ∷ ts)) s k = absurd k.1
same_root w h i wide tall x y below before (p ∷ (q ∷ qs)) (r ∷ []) s k = absurd k.1
same_root w h i wide tall x y below before (p ∷ (q ∷ qs)) (r ∷ (t ∷ ts)) s k =
    ap (λ (c : Parts). root_pixel x y below (before ++ c ∷ []) (t ∷ ts)) (over_same w h i wide tall p r s.0 k.0 before x y clear)
    ∙ same_root w h (i + 1) wide tall x y below (before ++ quads_over before x y clear p ∷ []) (q ∷ qs) (t ∷ ts) s.1 k.1

pub culled : (s : SceneView) (rs : List (List QuadView)) → IsScene s → AreAllKept s.passes rs
    → IsCulled s (record { w = s.w; h = s.h; background = s.background; passes = rs })
unfolding scene_pixel
culled s rs is k = record {
  wide = refl;
  tall = refl;
  background = refl;
  passes = k;
  pixels = λ x y. same_root s.w s.h 0 is.wide is.tall x y s.background [] s.passes rs is.sound k;
}

pub still_scene : (s : SceneView) (rs : List (List QuadView)) → IsScene s → AreAllKept s.passes rs
    → IsScene (record { w = s.w; h = s.h; background = s.background; passes = rs })
still_scene s rs is k = record {
  wide = is.wide;
  tall = is.tall;
  some = let many = as_many s.passes rs k in let one = is.some in omega arith;
  sound = passes_fit s.w s.h 0 s.passes rs is.sound k;
}

-- the passes of a scene fit
pub scene_fits : (s : SceneView) → IsScene s → All (All IsFit) s.passes
scene_fits s is k d lt =
    let fits = sound_at s.w s.h 0 k s.passes is.sound lt in
    let same : slice_index_or s.passes k [] ≡ slice_index_or s.passes k d = get_or_default s.passes k [] d lt in
    subst (All IsFit) same (All-weaker (QuadFits s.w s.h (0 + k)) IsFit (fit_in s.w s.h (0 + k) is.wide is.tall) (slice_index_or s.passes k []) fits)

-- one pass more
pub passes_kept : (ps rs : List (List QuadView)) (p r : List QuadView) → AreAllKept ps rs → AreKept p r → AreAllKept (ps ++ p ∷ []) (rs ++ r ∷ [])
passes_kept [] [] p r k one = (one, tt)
passes_kept [] (s ∷ ss) p r k one = absurd k
passes_kept (q ∷ qs) [] p r k one = absurd k
passes_kept (q ∷ qs) (s ∷ ss) p r k one = (k.0, passes_kept qs ss p r k.1 one)

pub passes_more : (passes : List RenderPass) (i : ℕ) (p : RenderPass) → i < length passes → p ≡ get_or passes i p
    → take (i + 1) (passes_view passes) ≡ take i (passes_view passes) ++ pass_view p ∷ []
passes_more passes i p lt e =
    let long : length (passes_view passes) ≡ length passes = length-map passes pass_view in
    take_more (passes_view passes) i (pass_view p) (omega arith)
    ∙ ap (λ (v : List QuadView). take i (passes_view passes) ++ v ∷ []) (get_or-map pass_view passes i p (pass_view p) lt ∙ ap pass_view (sym e))

-- one step back through the quads
pub passed_on : (quads : List Quad) (left i : ℕ) (q : Quad) (old new : List (List Rect)) (kept more : List Quad) → i + 1 ≡ left → i < length quads → q ≡ get_or quads i q
    → IsPassed (quad_view q) old new kept more → IsCover (quads_view (drop left quads)) old → AreKept (quads_view (drop left quads)) (quads_view (reverse kept))
    → IsCover (quads_view (drop i quads)) new × AreKept (quads_view (drop i quads)) (quads_view (reverse more))
passed_on quads left i q old new kept more f lt e passed is k =
    let v = view_from quads i q lt e ∙ ap (λ (n : ℕ). quad_view q ∷ quads_view (drop n quads)) f in (
      subst (λ (qs : List QuadView). IsCover qs new) (sym v) (passed.cover (quads_view (drop left quads)) is),
      subst (λ (qs : List QuadView). AreKept qs (quads_view (reverse more))) (sym v) (passed.kept (quads_view (drop left quads)) is k),
    )

pub pass_fit : (passes : List RenderPass) (i : ℕ) (p : RenderPass) → All (All IsFit) (passes_view passes) → i < length passes → p ≡ get_or passes i p
    → All IsFit (pass_view p)
pass_fit passes i p all lt e =
    let long : length (passes_view passes) ≡ length passes = length-map passes pass_view in
    let here : get_or (passes_view passes) i (pass_view p) ≡ pass_view p = get_or-map pass_view passes i p (pass_view p) lt ∙ ap pass_view (sym e) in
    subst (All IsFit) here (all i (pass_view p) (omega arith))

pub pass_more : (passes kept more : List RenderPass) (i : ℕ) (p r : RenderPass) → i < length passes → p ≡ get_or passes i p → more ≡ kept ++ r ∷ []
    → AreAllKept (take i (passes_view passes)) (passes_view kept) → AreKept (pass_view p) (pass_view r)
    → AreAllKept (take (i + 1) (passes_view passes)) (passes_view more)
pass_more passes kept more i p r lt e f all one =
    subst (λ (ps : List (List QuadView)). AreAllKept ps (passes_view more)) (sym (passes_more passes i p lt e))
    (subst (AreAllKept (take i (passes_view passes) ++ pass_view p ∷ [])) (sym (ap passes_view f ∙ map-append pass_view kept (r ∷ [])))
    (passes_kept (take i (passes_view passes)) (passes_view kept) (pass_view p) (pass_view r) all one))
