-- A scene, drawn strip by strip.
use Rattle.std.proofs.Common.{◌≡◌, ℕ, ◌+◌, ◌-◌, ◌*◌, ◌<◌, ◌≤◌, ℤ, pos, ◌+ℤ◌, ◌-ℤ◌, List, [], ◌∷◌, ◌++◌, length, inl, inr, sym, ◌∙◌, ap, subst, arith}
use Rattle.std.specs.Prelude.{All, slice_index_or}
use Rattle.std.proofs.Math.Nat.{mul-le-mul_left}
use Rattle.std.proofs.lemmas.Int.{ints}
use Rattle.std.proofs.lemmas.Bool.{cases_lt}
use Rattle.std.proofs.lemmas.List.{map-append, length-append, length-map, get_or_append_left, get_or_push}
use Rattle.std.proofs.lemmas.List.Elements.{All-weaker}
use Rattle.geom.specs.declared.Rect.{Rect}
use Rattle.geom.specs.Covers.{IsSound}
use Rattle.pixel.specs.Colours.{Parts}
use Rattle.page_display_list.specs.Bitmaps.{near}
use Rattle.viz_scene.specs.declared.RenderPass.{RenderPass}
use Rattle.viz_scene.specs.Views.{QuadView, tiled, plain, grouped, pass_view, passes_view, SceneView}
use Rattle.viz_scene.specs.Pixels.{quads_over, passes_at, scene_pixel}
use Rattle.viz_scene.specs.Sound.{IsIn, QuadFits, IsSceneSide, IsScene}
use Rattle.viz_scene.proofs.Steps.{sound_at, scene_last}
use Rattle.viz_render.specs.inner.Drawing.{SurfaceView, colours, CanBeDrawn, PassesCanBeDrawn, ShowsQuads}
use Rattle.viz_render.specs.inner.Masks.{top}
use Rattle.viz_render.specs.inner.Shown.{ShowsNoPass, ShowOpenPasses}
use Rattle.viz_render.specs.Surfaces.{ShowsArea}
use Rattle.viz_render.specs.inner.Rooms.{HasRoom}
use Rattle.viz_render.specs.declared.pass_surfaces.PassSurfaces.{PassSurfaces}
use Rattle.geom.proofs.Spans.{both_of}
use Rattle.viz_render.proofs.Hulls.{in_place}

-- a rect on a screen is sound
pub sound_in : (w h : ℕ) (at : Rect) → IsSceneSide w → IsSceneSide h → IsIn w h at → IsSound at
sound_in w h at wide tall i = record {
  across = record { from_low = omega (arith, ints); from_high = omega (arith, ints); length_low = omega (arith, ints); length_high = omega (arith, ints) };
  down = record { from_low = omega (arith, ints); from_high = omega (arith, ints); length_low = omega (arith, ints); length_high = omega (arith, ints) };
}

fits_drawn : (w h i : ℕ) (q : QuadView) → IsSceneSide w → IsSceneSide h → QuadFits w h i q → CanBeDrawn i q
fits_drawn w h i (tiled image at from) wide tall f = (sound_in w h at wide tall f.0, f.1)
fits_drawn w h i (plain at colour) wide tall f = sound_in w h at wide tall f
fits_drawn w h i (grouped pass opacity) wide tall f = f

-- the quads of pass `i` of a scene
pass_of : (s : SceneView) (i : ℕ) → IsScene s → i < length s.passes → All (CanBeDrawn i) (slice_index_or s.passes i [])
pass_of s i is lt =
    All-weaker (QuadFits s.w s.h i) (CanBeDrawn i) (λ q. fits_drawn s.w s.h i q is.wide is.tall) (slice_index_or s.passes i [])
    (subst (λ (k : ℕ). All (QuadFits s.w s.h k) (slice_index_or s.passes i [])) (zero_plus i) (sound_at s.w s.h 0 i s.passes is.sound lt))
  where
    zero_plus : (i : ℕ) → 0 + i ≡ i
    zero_plus i = omega arith

-- the passes of a scene, of which the last is the root
passes_split : (s : SceneView) (all inner : List RenderPass) (root : RenderPass) → passes_view all ≡ s.passes → all ≡ inner ++ root ∷ []
    → s.passes ≡ passes_view inner ++ pass_view root ∷ []
passes_split s all inner root e f = sym e ∙ ap passes_view f ∙ map-append pass_view inner (root ∷ [])

pub inner_drawable : (s : SceneView) (all inner : List RenderPass) (root : RenderPass) → IsScene s → passes_view all ≡ s.passes → all ≡ inner ++ root ∷ []
    → PassesCanBeDrawn (passes_view inner)
inner_drawable s all inner root is e f i lt =
    let split = passes_split s all inner root e f in
    let long = ap length split ∙ length-append (passes_view inner) (pass_view root ∷ []) in
    let here : slice_index_or s.passes i [] ≡ slice_index_or (passes_view inner) i [] =
    ap (λ (ps : List (List QuadView)). slice_index_or ps i []) split ∙ get_or_append_left (passes_view inner) (pass_view root ∷ []) [] i lt in
    subst (All (CanBeDrawn i)) here (pass_of s i is (omega arith))

pub root_drawable : (s : SceneView) (all inner : List RenderPass) (root : RenderPass) (i : ℕ) → IsScene s → passes_view all ≡ s.passes → all ≡ inner ++ root ∷ []
    → length inner ≡ i → All (CanBeDrawn i) (pass_view root)
root_drawable s all inner root i is e f len =
    let split = passes_split s all inner root e f in
    let long = ap length split ∙ length-append (passes_view inner) (pass_view root ∷ []) in
    let count : length (passes_view inner) ≡ length inner = length-map inner pass_view in
    let here : slice_index_or s.passes i [] ≡ pass_view root =
    ap (λ (ps : List (List QuadView)). slice_index_or ps i []) split ∙ get_or_push (passes_view inner) (pass_view root) [] i (count ∙ len) in
    subst (All (CanBeDrawn i)) here (pass_of s i is (omega arith))

-- how many passes there are
pub passes_count : (s : SceneView) (all inner : List RenderPass) (root : RenderPass) → passes_view all ≡ s.passes → all ≡ inner ++ root ∷ []
    → length s.passes ≡ length inner + 1
passes_count s all inner root e f =
    ap length (passes_split s all inner root e f) ∙ length-append (passes_view inner) (pass_view root ∷ []) ∙ ap (λ (n : ℕ). n + 1) (length-map inner pass_view)

-- a place of a span, counted from its start
pub place_back : (at : ℤ) (n : ℕ) → near ((at +ℤ pos n) -ℤ at) ≡ n
place_back at n = ap near (same at n)
  where
    same : (at : ℤ) (n : ℕ) → (at +ℤ pos n) -ℤ at ≡ pos n
    same at n = omega (arith, ints)

-- what the root shows at a pixel: the passes before it where they are seen, and elsewhere the same over any passes
pub root_over : (area : Rect) (tops : List ℕ) (last x y : ℕ) (surfaces : List SurfaceView) (passes : List (List QuadView)) (quads : List QuadView) (below : Parts)
    → x < near area.w → y < near area.h → ShowOpenPasses area tops last passes surfaces
    → (last < top tops x y → ShowsNoPass quads (area.x +ℤ pos x) (area.y +ℤ pos y))
    → quads_over (colours surfaces (area.x +ℤ pos x) (area.y +ℤ pos y)) (area.x +ℤ pos x) (area.y +ℤ pos y) below quads
    ≡ quads_over (passes_at (area.x +ℤ pos x) (area.y +ℤ pos y) [] passes) (area.x +ℤ pos x) (area.y +ℤ pos y) below quads
root_over area tops last x y surfaces passes quads below xw yh before apart =
    let px = area.x +ℤ pos x in
    let py = area.y +ℤ pos y in
    elim (cases_lt last (top tops x y)) as (λ _. quads_over (colours surfaces px py) px py below quads ≡ quads_over (passes_at px py [] passes) px py below quads) [
      | inl hidden ↦ apart hidden (colours surfaces px py) (passes_at px py [] passes) below
      | inr seen ↦
          let here : top tops (near (px -ℤ area.x)) (near (py -ℤ area.y)) ≤ last =
          subst (λ (n : ℕ). top tops n (near (py -ℤ area.y)) ≤ last) (sym (place_back area.x x))
          (subst (λ (n : ℕ). top tops x n ≤ last) (sym (place_back area.y y)) seen) in
          ap (λ (cs : List Parts). quads_over cs px py below quads)
          (before px py (both_of _ _ (in_place area.x area.w x xw) (in_place area.y area.h y yh), here))
    ]

-- the root over the background, where the passes before it are drawn where they are seen
pub scene_shown : (s : SceneView) (area : Rect) (tops : List ℕ) (last : ℕ) (all inner : List RenderPass) (root : RenderPass) (surfaces : List SurfaceView) (surface : List ℕ)
    → passes_view all ≡ s.passes → all ≡ inner ++ root ∷ []
    → ShowOpenPasses area tops last (passes_view inner) surfaces
    → ((x y : ℕ) → x < near area.w → y < near area.h → last < top tops x y → ShowsNoPass (pass_view root) (area.x +ℤ pos x) (area.y +ℤ pos y))
    → ShowsQuads area surfaces s.background (pass_view root) surface → ShowsArea s area surface
scene_shown s area tops last all inner root surfaces surface e f before apart drawn x y xw yh =
    let px = area.x +ℤ pos x in
    let py = area.y +ℤ pos y in
    let end : scene_pixel (record { w = s.w; h = s.h; background = s.background; passes = passes_view inner ++ pass_view root ∷ [] }) px py
    ≡ quads_over (passes_at px py [] (passes_view inner)) px py s.background (pass_view root) =
    scene_last s.w s.h s.background (passes_view inner) (pass_view root) px py in
    let whole : scene_pixel s px py ≡ scene_pixel (record { w = s.w; h = s.h; background = s.background; passes = passes_view inner ++ pass_view root ∷ [] }) px py =
    ap (λ (ps : List (List QuadView)). scene_pixel (record { w = s.w; h = s.h; background = s.background; passes = ps }) px py) (passes_split s all inner root e f) in
    drawn x y xw yh
    ∙ root_over area tops last x y surfaces (passes_view inner) (pass_view root) s.background xw yh before (apart x y xw yh)
    ∙ sym (whole ∙ end)

-- a strip is no larger than the surfaces
pub strip_size : (w h wide tall : ℕ) → w ≤ wide → h ≤ tall → 4 * (w * h) ≤ 4 * (wide * tall)
strip_size w h wide tall le low =
    let across : w * h ≤ w * tall = mul-le-mul_left w low in
    let down : w * tall ≤ wide * tall = grind arith in
    omega arith

-- room for more is room for less
pub less_room : (n m passes : ℕ) (s : PassSurfaces) → n ≤ m → HasRoom m passes s → HasRoom n passes s
less_room n m passes s le r = record {
  count = r.count;
  inner = All-weaker (λ (b : SurfaceView). m ≤ length b.bytes) (λ (b : SurfaceView). n ≤ length b.bytes) (λ b h. omega arith) s.passes.items r.inner;
  root = let h = r.root in omega arith;
}

-- surfaces with room for as many passes as there are of them
pub room_for : (n passes : ℕ) (s : PassSurfaces) → length s.passes.items + 1 ≡ passes → HasRoom n (length s.passes.items + 1) s → HasRoom n passes s
room_for n passes s e r = record { count = e; inner = r.inner; root = r.root }
