-- Passes and scenes that act some rows lower.
use Rattle.std.proofs.Common.{◌≡◌, ℕ, ◌+◌, ◌<◌, ◌≤◌, ℤ, pos, ◌+ℤ◌, ◌-ℤ◌, ◌≤ℤ◌, ◌<ℤ◌, Bool, true, false, ◌&&◌, ◌||◌, List, [], ◌∷◌, ◌++◌, length, get_or, take, refl, sym, ◌∙◌, ap, subst, arith, zero, suc}
use Rattle.std.specs.Prelude.{All}
use Rattle.std.proofs.lemmas.Int.{ints}
use Rattle.std.proofs.lemmas.List.{get_or-map, length-map, take_all, take_more}
use Rattle.std.proofs.lemmas.List.Elements.{All-weaker}
use Rattle.geom.specs.declared.Rect.{Rect}
use Rattle.geom.specs.Covers.{covers, within}
use Rattle.geom.proofs.Spans.{inside, both}
use Rattle.pixel.specs.Colours.{Parts, clear}
use Rattle.region.specs.Points.{covered}
use Rattle.viz_scene.specs.declared.quad.Quad.{Quad}
use Rattle.viz_scene.specs.declared.quad.RenderPass.{RenderPass}
use Rattle.viz_scene.specs.Views.{QuadView, tiled, plain, grouped, quad_view, quads_view, pass_view, passes_view, SceneView}
use Rattle.viz_scene.specs.Pixels.{quads_over, root_pixel, scene_pixel}
use Rattle.viz_scene.specs.Sound.{QuadFits, AreSound, IsScene}
use Rattle.viz_damage.specs.Damage.{AreAlikeOutside, screen}
use Rattle.viz_damage.proofs.PassSteps.{sound_wide}
use Rattle.viz_damage.specs.declared.shift.Shift.{Shift}
use Rattle.viz_damage.specs.Moved.{InRows, fall, AreAlikeMoved}
use Rattle.viz_damage.specs.inner.Acting.{IsShown, ActMoved, AllActMoved, AlsoFit, AllAlsoFit, IsMoved}

-- ---- one pass more

all_acts : (by top end : ℤ) (ps rs : List (List QuadView)) (p r : List QuadView) → AllActMoved by top end ps rs → ActMoved by top end p r
    → AllActMoved by top end (ps ++ p ∷ []) (rs ++ r ∷ [])
all_acts by top end [] [] p r all one = (one, tt)
all_acts by top end [] (s ∷ ss) p r all one = absurd all
all_acts by top end (q ∷ qs) [] p r all one = absurd all
all_acts by top end (q ∷ qs) (s ∷ ss) p r all one = (all.0, all_acts by top end qs ss p r all.1 one)

all_fits : (end : ℤ) (ps rs : List (List QuadView)) (p r : List QuadView) → AllAlsoFit end ps rs → AlsoFit end p r → AllAlsoFit end (ps ++ p ∷ []) (rs ++ r ∷ [])
all_fits end [] [] p r all one = (one, tt)
all_fits end [] (s ∷ ss) p r all one = absurd all
all_fits end (q ∷ qs) [] p r all one = absurd all
all_fits end (q ∷ qs) (s ∷ ss) p r all one = (all.0, all_fits end qs ss p r all.1 one)

passes_more : (passes : List RenderPass) (i : ℕ) (p : RenderPass) → i < length passes → p ≡ get_or passes i p
    → take (i + 1) (passes_view passes) ≡ take i (passes_view passes) ++ pass_view p ∷ []
passes_more passes i p lt e =
    let long : length (passes_view passes) ≡ length passes = length-map passes pass_view in
    take_more (passes_view passes) i (pass_view p) (omega arith)
    ∙ ap (λ (v : List QuadView). take i (passes_view passes) ++ v ∷ []) (get_or-map pass_view passes i p (pass_view p) lt ∙ ap pass_view (sym e))

pub pass_acts : (by top end : ℤ) (passes : List RenderPass) (rs : List (List QuadView)) (i : ℕ) (p : RenderPass) (r : List QuadView)
    → i < length passes → p ≡ get_or passes i p → AllActMoved by top end (take i (passes_view passes)) rs → ActMoved by top end (pass_view p) r
    → AllActMoved by top end (take (i + 1) (passes_view passes)) (rs ++ r ∷ [])
pass_acts by top end passes rs i p r lt e all one =
    subst (λ (ps : List (List QuadView)). AllActMoved by top end ps (rs ++ r ∷ [])) (sym (passes_more passes i p lt e))
    (all_acts by top end (take i (passes_view passes)) rs (pass_view p) r all one)

pub pass_fits : (end : ℤ) (passes : List RenderPass) (rs : List (List QuadView)) (i : ℕ) (p : RenderPass) (r : List QuadView)
    → i < length passes → p ≡ get_or passes i p → AllAlsoFit end (take i (passes_view passes)) rs → AlsoFit end (pass_view p) r
    → AllAlsoFit end (take (i + 1) (passes_view passes)) (rs ++ r ∷ [])
pass_fits end passes rs i p r lt e all one =
    subst (λ (ps : List (List QuadView)). AllAlsoFit end ps (rs ++ r ∷ [])) (sym (passes_more passes i p lt e))
    (all_fits end (take i (passes_view passes)) rs (pass_view p) r all one)

pub pass_shown : (passes : List RenderPass) (i : ℕ) (p : RenderPass) → All (All IsShown) (passes_view passes) → i < length passes → p ≡ get_or passes i p
    → All IsShown (pass_view p)
pass_shown passes i p all lt e =
    let long : length (passes_view passes) ≡ length passes = length-map passes pass_view in
    let here : get_or (passes_view passes) i (pass_view p) ≡ pass_view p = get_or-map pass_view passes i p (pass_view p) lt ∙ ap pass_view (sym e) in
    subst (All IsShown) here (all i (pass_view p) (omega arith))

pub quad_shown : (quads : List Quad) (i : ℕ) (q : Quad) → All IsShown (quads_view quads) → i < length quads → q ≡ get_or quads i q → IsShown (quad_view q)
quad_shown quads i q all lt e =
    let long : length (quads_view quads) ≡ length quads = length-map quads quad_view in
    let here : get_or (quads_view quads) i (quad_view q) ≡ quad_view q = get_or-map quad_view quads i q (quad_view q) lt ∙ ap quad_view (sym e) in
    subst IsShown here (all i (quad_view q) (omega arith))

pub all_quads : (quads : List Quad) (i : ℕ) → length quads ≤ i → take i (quads_view quads) ≡ quads_view quads
all_quads quads i le =
    let long : length (quads_view quads) ≡ length quads = length-map quads quad_view in
    take_all i (quads_view quads) (omega arith)

pub all_passes : (passes : List RenderPass) (i : ℕ) → length passes ≤ i → take i (passes_view passes) ≡ passes_view passes
all_passes passes i le =
    let long : length (passes_view passes) ≡ length passes = length-map passes pass_view in
    take_all i (passes_view passes) (omega arith)

-- ---- what each scene keeps

shown : (n : ℕ) (q : QuadView) → QuadFits 2048 2048 n q → IsShown q
shown n (tiled image at from) f = f
shown n (plain at colour) f = f
shown n (grouped pass opacity) f = tt

all_shown : (n : ℕ) (ps : List (List QuadView)) → AreSound 2048 2048 n ps → All (All IsShown) ps
all_shown n [] s k d lt = absurd (omega arith)
all_shown n (p ∷ ps) s zero d lt = All-weaker (QuadFits 2048 2048 n) IsShown (shown n) p s.0
all_shown n (p ∷ ps) s (suc k) d lt = all_shown (n + 1) ps s.1 k d (omega arith)

pub scene_shown : (s : SceneView) → IsScene s → All (All IsShown) s.passes
scene_shown s is = all_shown 0 s.passes (sound_wide s.w s.h 0 s.passes is.wide is.tall is.sound)

same_count : (end : ℤ) (ps rs : List (List QuadView)) → AllAlsoFit end ps rs → length rs ≡ length ps
same_count end [] [] all = refl
same_count end [] (r ∷ rs) all = absurd all
same_count end (p ∷ ps) [] all = absurd all
same_count end (p ∷ ps) (r ∷ rs) all = let more = same_count end ps rs all.1 in omega arith

still_sound : (end : ℤ) (w h n : ℕ) (ps rs : List (List QuadView)) → end ≤ℤ pos h → AllAlsoFit end ps rs → AreSound w h n ps → AreSound w h n rs
still_sound end w h n [] [] le all s = tt
still_sound end w h n [] (r ∷ rs) le all s = absurd all
still_sound end w h n (p ∷ ps) [] le all s = absurd all
still_sound end w h n (p ∷ ps) (r ∷ rs) le all s = (all.0 w h n le s.0, still_sound end w h (n + 1) ps rs le all.1 s.1)

pub still_scene : (end : ℤ) (s : SceneView) (rs : List (List QuadView)) → IsScene s → end ≤ℤ pos s.h → AllAlsoFit end s.passes rs
    → IsScene (record { w = s.w; h = s.h; background = s.background; passes = rs })
still_scene end s rs is le all = record {
  wide = is.wide;
  tall = is.tall;
  some = let some = is.some in let e = same_count end s.passes rs all in omega arith;
  sound = still_sound end s.w s.h 0 s.passes rs le all is.sound;
}

-- ---- the pixels of a scene

root_moved : (by top end x y : ℤ) (below : Parts) (before : List Parts) (ps rs : List (List QuadView)) → InRows top end y → AllActMoved by top end ps rs
    → root_pixel x y below before rs ≡ root_pixel x (y -ℤ by) below before ps
root_moved by top end x y below before [] [] rows all = refl
root_moved by top end x y below before [] (r ∷ rs) rows all = absurd all
root_moved by top end x y below before (p ∷ ps) [] rows all = absurd all
root_moved by top end x y below before (p ∷ []) (r ∷ []) rows all = all.0 before x y below rows
root_moved by top end x y below before (p ∷ []) (r ∷ (s ∷ ss)) rows all = absurd all.1
root_moved by top end x y below before (p ∷ (q ∷ qs)) (r ∷ []) rows all = absurd all.1
root_moved by top end x y below before (p ∷ (q ∷ qs)) (r ∷ (s ∷ ss)) rows all =
    root_moved by top end x y below (before ++ quads_over before x y clear r ∷ []) (q ∷ qs) (s ∷ ss) rows all.1
    ∙ ap (λ (c : Parts). root_pixel x (y -ℤ by) below (before ++ c ∷ []) (q ∷ qs)) (all.0 before x y clear rows)

pub scene_moved : (by top end : ℤ) (s : SceneView) (rs : List (List QuadView)) → AllActMoved by top end s.passes rs
    → IsMoved by top end s (record { w = s.w; h = s.h; background = s.background; passes = rs })
unfolding scene_pixel
scene_moved by top end s rs all = record {
  wide = refl;
  tall = refl;
  pixels = λ x y rows. root_moved by top end x y s.background [] s.passes rs rows all;
}

-- ---- what is left of the screen

-- where the second of two tests fails
second : (a b : Bool) → a ≡ true → a && b ≡ false → b ≡ false
second true b e h = h
second false b e h = cc

-- no number of a span
missed : (at len p : ℤ) → within at len p ≡ false → at ≤ℤ p → (at +ℤ len) ≤ℤ p
unfolding within
missed at len p h low = grind (arith, ints)

missed_below : (end stop p : ℤ) → within end (stop -ℤ end) p ≡ false → p <ℤ stop → p <ℤ end
unfolding within
missed_below end stop p h high = grind (arith, ints)

-- a row of the screen that neither the rows above nor those below hold
pub between : (w h : ℕ) (top end x y : ℤ) → covers (record { x = pos 0; y = pos 0; w = pos w; h = pos h }) x y ≡ true
    → covers (record { x = pos 0; y = pos 0; w = pos w; h = top -ℤ pos 0 }) x y ≡ false
    → covers (record { x = pos 0; y = end; w = pos w; h = pos h -ℤ end }) x y ≡ false → InRows top end y
between w h top end x y on above below =
    let is = both _ _ on in
    let down = inside (pos 0) (pos h) y is.1 in
    let low = down.low in
    let high = down.high in
    let first = missed (pos 0) (top -ℤ pos 0) y (second (within (pos 0) (pos w) x) _ is.0 above) low in
    let last = second (within (pos 0) (pos w) x) _ is.0 below in
    record { low = omega (arith, ints); high = missed_below end (pos h) y last (omega (arith, ints)) }

neither : (a b : Bool) → a || b ≡ false → (a ≡ false) × (b ≡ false)
neither true b h = cc
neither false b h = (refl, h)

-- a rect by its sides
by_sides : (r : Rect) (x y w h : ℤ) (p q : ℤ) → r.x ≡ x → r.y ≡ y → r.w ≡ w → r.h ≡ h → covers r p q ≡ covers (record { x = x; y = y; w = w; h = h }) p q
by_sides r x y w h p q a b c d =
    ap (λ (z : ℤ). within z r.w p && within r.y r.h q) a
    ∙ ap (λ (z : ℤ). within x z p && within r.y r.h q) c
    ∙ ap (λ (z : ℤ). within x w p && within z r.h q) b
    ∙ ap (λ (z : ℤ). within x w p && within y z q) d

-- the damage between two scenes that were cut to the same rows, and the rows above and below
pub alike_moved : (s : Shift) (old new before after : SceneView) (damage first region : List Rect) (above under : Rect) (by none top end : ℤ)
    → by ≡ fall s → none ≡ pos 0 → top ≡ pos s.to → end ≡ pos (s.to + s.count)
    → IsMoved by top end old before → IsMoved none top end new after → old.w ≡ new.w → old.h ≡ new.h → AreAlikeOutside damage before after
    → above.x ≡ pos 0 → above.y ≡ pos 0 → above.w ≡ pos new.w → above.h ≡ top -ℤ pos 0
    → under.x ≡ pos 0 → under.y ≡ end → under.w ≡ pos new.w → under.h ≡ pos new.h -ℤ end
    → ((x y : ℤ) → covered first x y ≡ (covered damage x y || covers above x y))
    → ((x y : ℤ) → covered region x y ≡ (covered first x y || covers under x y))
    → AreAlikeMoved s region old new
alike_moved s old new before after damage first region above under by none top end b z t e moved cut wide tall alike ax ay aw ah ux uy uw uh one two x y on out =
    let last = neither (covered first x y) _ (sym (two x y) ∙ out) in
    let next = neither (covered damage x y) _ (sym (one x y) ∙ last.0) in
    let rows =
    between new.w new.h top end x y on (sym (by_sides above (pos 0) (pos 0) (pos new.w) (top -ℤ pos 0) x y ax ay aw ah) ∙ next.1)
    (sym (by_sides under (pos 0) end (pos new.w) (pos new.h -ℤ end) x y ux uy uw uh) ∙ last.1) in
    let w : new.w ≡ before.w = sym wide ∙ sym moved.wide in
    let h : new.h ≡ before.h = sym tall ∙ sym moved.tall in
    let there : covers (screen before) x y ≡ true =
    ap (λ (n : ℕ). covers (record { x = pos 0; y = pos 0; w = pos n; h = pos before.h }) x y) (sym w)
    ∙ ap (λ (n : ℕ). covers (record { x = pos 0; y = pos 0; w = pos new.w; h = pos n }) x y) (sym h) ∙ on in
    let still : y -ℤ none ≡ y = omega (arith, ints) in
    let low = rows.low in
    let high = rows.high in (
      record { low = omega (arith, ints); high = omega (arith, ints) },
      ap (scene_pixel new x) (sym still) ∙ sym (cut.pixels x y rows) ∙ sym (alike x y there next.0) ∙ moved.pixels x y rows
          ∙ ap (λ (d : ℤ). scene_pixel old x (y -ℤ d)) b,
    )
