-- Passes, one more at a time.
use Rattle.std.proofs.Common.{◌≡◌, ℕ, zero, suc, ◌+◌, ◌*◌, ◌<◌, ◌≤◌, ℤ, pos, ◌+ℤ◌, ◌-ℤ◌, Bool, true, false, cond, List, [], ◌∷◌, ◌++◌, length, take, drop, set, get_or, refl, sym, ◌∙◌, ap, subst, arith, inl, inr}
use Rattle.std.specs.Prelude.{All, slice_index}
use Rattle.std.proofs.lemmas.Bool.{cases_lt}
use Rattle.std.proofs.lemmas.List.{get_or-map, get_or-drop, get_or_append_left, length-append, length-drop, length-map, take_more, take_more_set, take_all, map-append}
use Rattle.std.proofs.lemmas.Grind.{common_steps}
use Rattle.geom.specs.declared.Rect.{Rect}
use Rattle.geom.specs.Covers.{covers}
use Rattle.geom.proofs.Spans.{both}
use Rattle.pixel.specs.Colours.{Parts, clear}
use Rattle.pixel.specs.Rows.{pixel, ArePremultiplied, alpha_place}
use Rattle.pixel.proofs.Fills.{same_parts}
use Rattle.page_display_list.specs.Bitmaps.{near, byte_count}
use Rattle.viz_scene.specs.declared.RenderPass.{RenderPass}
use Rattle.viz_scene.specs.Views.{QuadView, pass_view, passes_view}
use Rattle.viz_scene.specs.Pixels.{quads_over, passes_at}
use Rattle.viz_scene.proofs.Steps.{passes_push}
use Rattle.viz_render.specs.inner.Drawing.{SurfaceView, colour_of, colours, CanBeDrawn, AreRoomy, PassesCanBeDrawn, ShowsQuads, ShowsPass}
use Rattle.viz_render.specs.inner.Masks.{AreNumbers, AreOpenNumbers}
use Rattle.viz_render.specs.inner.Shown.{ShowsSeen, IsSeenAt, ShowsOpenPass, ShowOpenPasses}
use Rattle.viz_render.proofs.QuadSteps.{place_below}
use Rattle.viz_render.proofs.Hulls.{place_in}

-- the first bytes, with other bytes after them
byte_front : (xs ys : List ℕ) (i : ℕ) → i < length xs → slice_index (xs ++ ys) i ≡ slice_index xs i
byte_front xs ys i lt = get_or_append_left xs ys 0 i lt

byte_back : (n : ℕ) (xs ys : List ℕ) (i : ℕ) → length xs ≡ n → n ≤ i → slice_index (xs ++ drop n ys) i ≡ slice_index ys i
byte_back n xs ys i len le = grind (arith, common_steps)

pub pixel_of_front : (xs ys : List ℕ) (k : ℕ) → 4 * k + 4 ≤ length xs → pixel (xs ++ ys) k ≡ pixel xs k
pixel_of_front xs ys k le =
    same_parts (pixel (xs ++ ys) k) (pixel xs k)
    (byte_front xs ys (4 * k) (omega arith)) (byte_front xs ys (4 * k + 1) (omega arith))
    (byte_front xs ys (4 * k + 2) (omega arith)) (byte_front xs ys (4 * k + 3) (omega arith))

pub front_premultiplied : (n : ℕ) (new old : List ℕ) → length new ≡ 4 * n → 4 * n ≤ length old → ArePremultiplied new → ArePremultiplied old
    → ArePremultiplied (new ++ drop (4 * n) old)
front_premultiplied n new old len fit front whole i lt =
    let long = length-append new (drop (4 * n) old) in
    let rest = length-drop (4 * n) old in
    elim (cases_lt i (4 * n)) as (λ _. slice_index (new ++ drop (4 * n) old) i ≤ slice_index (new ++ drop (4 * n) old) (alpha_place i)) [
      | inl low ↦
          let here = byte_front new (drop (4 * n) old) i (omega arith) in
          let alpha = byte_front new (drop (4 * n) old) (alpha_place i) (omega arith) in
          let known = front i (omega arith) in
          omega arith
      | inr high ↦
          let here = byte_back (4 * n) new old i len high in
          let alpha = byte_back (4 * n) new old (alpha_place i) len (omega arith) in
          let known = whole i (omega arith) in
          omega arith
    ]

-- quads drawn into the first of some bytes
pub shows_seen : (n : ℕ) (area : Rect) (tops : List ℕ) (passes : List SurfaceView) (below : Parts) (quads : List QuadView) (new rest : List ℕ)
    → length new ≡ byte_count area.w area.h
    → ShowsSeen n area tops passes below quads new
    → ShowsSeen n area tops passes below quads (new ++ rest)
shows_seen n area tops passes below quads new rest size each x y xw yh seen =
    let room : 4 * (y * near area.w + x) + 4 ≤ 4 * (near area.w * near area.h) = place_below (near area.w) (near area.h) x y xw yh in
    pixel_of_front new rest (y * near area.w + x) (omega arith) ∙ each x y xw yh seen

-- where all blocks have numbers of quads, all is seen
pub all_seen : (n : ℕ) (area : Rect) (tops : List ℕ) (passes : List SurfaceView) (below : Parts) (quads : List QuadView) (bytes : List ℕ)
    → near area.w ≤ 2048 → near area.h ≤ 64 → AreNumbers n tops
    → ShowsSeen n area tops passes below quads bytes → ShowsQuads area passes below quads bytes
all_seen n area tops passes below quads bytes wide low numbers each x y xw yh = each x y xw yh (numbers x y (omega arith) (omega arith))

-- quads drawn where a quad of the root is seen
pub open_shown : (area : Rect) (root : List ℕ) (last n : ℕ) (tops : List ℕ) (passes : List SurfaceView) (quads : List QuadView) (s : SurfaceView)
    → near area.w ≤ 2048 → near area.h ≤ 64 → s.rect ≡ area → AreOpenNumbers n root last tops
    → ShowsSeen n area tops passes clear quads s.bytes → ShowsOpenPass area root last passes quads s
unfolding colour_of
open_shown area root last n tops passes quads s wide low is numbers drawn x y seen =
    at_point area s.rect root last n tops passes quads s.bytes wide low is numbers drawn x y seen
    (ap (λ (r : Rect). covers r x y) is ∙ seen.0)
  where
    at_point : (area rect : Rect) (root : List ℕ) (last n : ℕ) (tops : List ℕ) (passes : List SurfaceView) (quads : List QuadView) (bytes : List ℕ)
        → near area.w ≤ 2048 → near area.h ≤ 64 → rect ≡ area → AreOpenNumbers n root last tops → ShowsSeen n area tops passes clear quads bytes
        → (x y : ℤ) → IsSeenAt area root last x y → covers rect x y ≡ true
        → cond (covers rect x y) (pixel bytes (near (y -ℤ rect.y) * near rect.w + near (x -ℤ rect.x))) clear ≡ quads_over (colours passes x y) x y clear quads
    at_point area rect root last n tops passes quads bytes wide low is numbers drawn x y seen on =
        let k = both _ _ seen.0 in
        let across = place_in area.x area.w x k.0 in
        let down = place_in area.y area.h y k.1 in
        let row = area.y +ℤ pos (near (y -ℤ area.y)) in
        ap (λ (t : Bool). cond t (pixel bytes (near (y -ℤ rect.y) * near rect.w + near (x -ℤ rect.x))) clear) on
        ∙ ap (λ (r : Rect). pixel bytes (near (y -ℤ r.y) * near r.w + near (x -ℤ r.x))) is
        ∙ drawn (near (x -ℤ area.x)) (near (y -ℤ area.y)) across.0 down.0 (numbers (near (x -ℤ area.x)) (near (y -ℤ area.y)) (omega (arith, across.0)) (omega (arith, down.0)) seen.1)
        ∙ ap (λ (z : ℤ). quads_over (colours passes z row) z row clear quads) across.1
        ∙ ap (λ (z : ℤ). quads_over (colours passes x z) x z clear quads) down.1

-- quads drawn on a rect outside of which they draw nothing
pub pass_shown : (area hull : Rect) (passes : List SurfaceView) (quads : List QuadView) (s : SurfaceView) → s.rect ≡ hull
    → ShowsQuads hull passes clear quads s.bytes
    → ((x y : ℤ) → covers area x y ≡ true → covers hull x y ≡ false → quads_over (colours passes x y) x y clear quads ≡ clear)
    → ShowsPass area passes quads s
unfolding colour_of
pass_shown area hull passes quads s is drawn none x y on =
    at_point area s.rect passes quads s.bytes (subst (λ (r : Rect). ShowsQuads r passes clear quads s.bytes) (sym is) drawn) x y
    (λ off. none x y on (ap (λ (r : Rect). covers r x y) (sym is) ∙ off)) (covers s.rect x y) refl
  where
    at_point : (area rect : Rect) (passes : List SurfaceView) (quads : List QuadView) (bytes : List ℕ) → ShowsQuads rect passes clear quads bytes
        → (x y : ℤ) → (covers rect x y ≡ false → quads_over (colours passes x y) x y clear quads ≡ clear) → (t : Bool) → covers rect x y ≡ t
        → cond t (pixel bytes (near (y -ℤ rect.y) * near rect.w + near (x -ℤ rect.x))) clear ≡ quads_over (colours passes x y) x y clear quads
    at_point area rect passes quads bytes drawn x y none true h =
        let k = both _ _ h in
        let across = place_in rect.x rect.w x k.0 in
        let down = place_in rect.y rect.h y k.1 in
        let row = rect.y +ℤ pos (near (y -ℤ rect.y)) in
        drawn (near (x -ℤ rect.x)) (near (y -ℤ rect.y)) across.0 down.0
        ∙ ap (λ (z : ℤ). quads_over (colours passes z row) z row clear quads) across.1
        ∙ ap (λ (z : ℤ). quads_over (colours passes x z) x z clear quads) down.1
    at_point area rect passes quads bytes drawn x y none false h = sym (none h)

-- a list in two parts, with another first element of the second
pub joined_set : (xs : List SurfaceView) (i : ℕ) (y : SurfaceView) → i < length xs → take i xs ++ set (drop i xs) 0 y ≡ set xs i y
joined_set [] i y lt = absurd (omega arith)
joined_set (x ∷ xs) zero y lt = refl
joined_set (x ∷ xs) (suc i) y lt = ap (λ (ys : List SurfaceView). x ∷ ys) (joined_set xs i y (omega arith))

-- one more pass
pub passes_more : (area : Rect) (root : List ℕ) (last : ℕ) (passes : List RenderPass) (surfaces : List SurfaceView) (i : ℕ) (pass : RenderPass) (own : SurfaceView)
    → i < length passes → length surfaces ≡ length passes → pass ≡ get_or passes i pass
    → ShowOpenPasses area root last (passes_view (take i passes)) (take i surfaces)
    → ShowsOpenPass area root last (take i surfaces) (pass_view pass) own
    → ShowOpenPasses area root last (passes_view (take (i + 1) passes)) (take (i + 1) (set surfaces i own))
passes_more area root last passes surfaces i pass own lt same e before drawn x y on =
    let shown : List Parts = passes_at x y [] (passes_view (take i passes)) in
    let more : take (i + 1) passes ≡ take i passes ++ pass ∷ [] =
    take_more passes i pass lt ∙ ap (λ (p : RenderPass). take i passes ++ p ∷ []) (sym e) in
    let views : passes_view (take (i + 1) passes) ≡ passes_view (take i passes) ++ pass_view pass ∷ [] =
    ap passes_view more ∙ map-append pass_view (take i passes) (pass ∷ []) in
    ap (λ (ss : List SurfaceView). colours ss x y) (take_more_set surfaces i own (omega arith))
    ∙ map-append (λ (s : SurfaceView). colour_of s x y) (take i surfaces) (own ∷ [])
    ∙ ap (λ (cs : List Parts). cs ++ colour_of own x y ∷ []) (before x y on)
    ∙ ap (λ (c : Parts). shown ++ c ∷ [])
    (drawn x y on ∙ ap (λ (cs : List Parts). quads_over cs x y clear (pass_view pass)) (before x y on))
    ∙ sym (passes_push x y [] (passes_view (take i passes)) (pass_view pass))
    ∙ ap (passes_at x y []) (sym views)

-- all passes
pub passes_all : (area : Rect) (root : List ℕ) (last : ℕ) (passes : List RenderPass) (surfaces : List SurfaceView) (i : ℕ)
    → length passes ≤ i → length surfaces ≡ length passes
    → ShowOpenPasses area root last (passes_view (take i passes)) (take i surfaces) → ShowOpenPasses area root last (passes_view passes) surfaces
passes_all area root last passes surfaces i le same shown =
    subst (λ (ss : List SurfaceView). ShowOpenPasses area root last (passes_view passes) ss) (take_all i surfaces (omega arith))
    (subst (λ (ps : List RenderPass). ShowOpenPasses area root last (passes_view ps) (take i surfaces)) (take_all i passes le) shown)

-- the quads of a pass can be drawn
pub pass_drawable : (passes : List RenderPass) (i : ℕ) (pass : RenderPass) → PassesCanBeDrawn (passes_view passes) → i < length passes
    → pass ≡ get_or passes i pass → All (CanBeDrawn i) (pass_view pass)
pass_drawable passes i pass can lt e =
    let long : length (passes_view passes) ≡ length passes = length-map passes pass_view in
    let here : get_or (passes_view passes) i [] ≡ pass_view pass = get_or-map pass_view passes i pass [] lt ∙ ap pass_view (sym e) in
    subst (All (CanBeDrawn i)) here (can i (omega arith))

-- the first surface after those of the passes before has room
pub room_behind : (n : ℕ) (surfaces rest : List SurfaceView) (i : ℕ) (d : SurfaceView) → AreRoomy n surfaces → i < length surfaces → rest ≡ drop i surfaces
    → n ≤ length (get_or rest 0 d).bytes
room_behind n surfaces rest i d room lt e =
    let here : get_or rest 0 d ≡ get_or surfaces (i + 0) d = ap (λ (ss : List SurfaceView). get_or ss 0 d) e ∙ get_or-drop i surfaces 0 d in
    subst (λ (s : SurfaceView). n ≤ length s.bytes) (sym here) (room (i + 0) d (omega arith))
