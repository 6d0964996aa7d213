-- Where a scene shows in a row what it shows in the row above.
use Rattle.std.proofs.Common.{◌≡◌, ℕ, ◌+◌, ◌-◌, ◌<◌, ◌≤◌, ℤ, pos, ◌+ℤ◌, ◌-ℤ◌, ◌≤ℤ◌, ◌<ℤ◌, Bool, true, cond, ◌&&◌, List, [], ◌∷◌, ◌++◌, length, get_or, take, inl, inr, refl, sym, ◌∙◌, ap, subst, arith, zero, suc}
use Rattle.std.specs.Prelude.{All, map, slice_index, nat_le, nat_lt}
use Rattle.std.proofs.lemmas.Int.{ints}
use Rattle.std.proofs.lemmas.Bool.{cases_lt}
use Rattle.std.proofs.lemmas.Bool.Decides.{nat_tests}
use Rattle.std.proofs.lemmas.List.{get_or-map, length-map, take_all, take_more}
use Rattle.std.proofs.lemmas.List.Elements.{All-weaker, All-append}
use Rattle.geom.specs.declared.Rect.{Rect}
use Rattle.geom.specs.declared.Point.{Point}
use Rattle.geom.specs.Covers.{covers}
use Rattle.geom.proofs.Spans.{inside, both}
use Rattle.pixel.specs.Colours.{Parts, blend, clear}
use Rattle.pixel.specs.Surfaces.{holds}
use Rattle.pixel.specs.declared.surface.Area.{Area}
use Rattle.page_display_list.specs.Bitmaps.{near}
use Rattle.page_display_list.specs.Shared.{IsShared, IsOutside}
use Rattle.page_display_list.specs.declared.CoveredArea.{CoveredArea}
use Rattle.tile_raster.specs.Images.{Image, AreSameRows, list_colour}
use Rattle.viz_scene.specs.Views.{QuadView, tiled, plain, grouped, SceneView}
use Rattle.viz_scene.specs.Pixels.{placed_pixel, quad_over, quads_over, root_pixel, scene_pixel}
use Rattle.viz_scene.specs.Sound.{IsTaken, QuadFits, AreSound, IsScene, IsSceneSide}
use Rattle.viz_render.proofs.SceneSteps.{sound_in}
use Rattle.viz_render.proofs.Tiles.{where_held, near_is, pixel_taken, from_top}
use Rattle.viz_canvas.specs.inner.Fresh.{IsPlaced, IsEven, ActsAlike, AreStale, StaysMarked, AreBands}

-- ---- rows of an image

pub bands_more : (image : Image) (part : CoveredArea) (down done n : ℕ) (old new : List ℕ) → StaysMarked old new → AreBands image part down done old
    → (slice_index new (part.at.y + done) ≡ 0 → ⊥)
    → ((k : ℕ) → k < n → AreSameRows image.list image.rect (part.above + down + done) (part.above + down + done + k))
    → AreBands image part down (done + n) new
bands_more image part down done n old new keeps before marked equal r lt in_part z x xw =
    let base = part.above + down in
    let row : ℕ → Parts = list_colour image.list image.rect x in
    elim (cases_lt (r + 1) done) as (λ _. row (base + r) ≡ row (base + (r + 1))) [
      | inl less ↦ before r less in_part (keeps _ z) x xw
      | inr le ↦ elim (cases_lt r done) as (λ _. row (base + r) ≡ row (base + (r + 1))) [
        | inl last ↦
            let e : r + 1 ≡ done = omega arith in
            absurd (marked (subst (λ (i : ℕ). slice_index new (part.at.y + i) ≡ 0) e z))
        | inr from ↦
            let a : base + done + (r - done) ≡ base + r = omega arith in
            let b : base + done + (r - done + 1) ≡ base + (r + 1) = omega arith in
            sym (ap row a) ∙ sym (equal (r - done) (omega arith) x xw) ∙ equal (r - done + 1) (omega arith) x xw ∙ ap row b
      ]
    ]

-- ---- a rect

le_alike : (a y : ℕ) → (y + 1 ≡ a → ⊥) → nat_le a (y + 1) ≡ nat_le a y
le_alike a y h = grind (arith, nat_tests)

lt_alike : (e y : ℕ) → (y + 1 ≡ e → ⊥) → nat_lt (y + 1) e ≡ nat_lt y e
lt_alike e y h = grind (arith, nat_tests)

pub holds_alike : (at : Area) (x y : ℕ) → (y + 1 ≡ at.y → ⊥) → (y + 1 ≡ at.y + at.h → ⊥) → holds at x (y + 1) ≡ holds at x y
holds_alike at x y first end =
    ap (λ (b : Bool). nat_le at.x x && nat_lt x (at.x + at.w) && b && nat_lt (y + 1) (at.y + at.h)) (le_alike at.y y first)
    ∙ ap (λ (b : Bool). nat_le at.x x && nat_lt x (at.x + at.w) && nat_le at.y y && b) (lt_alike (at.y + at.h) y end)

pub even_part : (at area : Rect) (part : CoveredArea) (fresh : List ℕ) (n : ℕ) → IsShared at area part → near area.h ≤ n
    → (part.at.y < n → slice_index fresh part.at.y ≡ 0 → ⊥)
    → (part.at.y + part.at.h < n → slice_index fresh (part.at.y + part.at.h) ≡ 0 → ⊥)
    → AreStale area fresh (IsEven area at)
even_part at area part fresh n shared room first end y yh z x xw =
    shared.points x (y + 1) xw yh
    ∙ holds_alike part.at x y
    (λ e. first (omega arith) (subst (λ (i : ℕ). slice_index fresh i ≡ 0) e z))
    (λ e. end (omega arith) (subst (λ (i : ℕ). slice_index fresh i ≡ 0) e z))
    ∙ sym (shared.points x y xw (omega arith))

pub even_outside : (at area : Rect) (fresh : List ℕ) → IsOutside at area → AreStale area fresh (IsEven area at)
even_outside at area fresh out y yh z x xw = out x (y + 1) xw yh ∙ sym (out x y xw (omega arith))

pub plain_alike : (area at : Rect) (c : Parts) (y : ℕ) → IsEven area at y → ActsAlike area y (plain at c)
plain_alike area at c y even passes x below xw = ap (λ (b : Bool). cond b (blend below c) below) (even x xw)

-- ---- a tile

column_in : (from at len end p : ℤ) (c : ℕ) → pos 0 ≤ℤ from → (from +ℤ len) ≤ℤ end → at ≤ℤ p → p <ℤ (at +ℤ len) → near (p -ℤ at) ≡ c
    → c + near from < near end
column_in from at len end p c low fit le lt e =
    let f : pos (near from) ≡ from = near_is from low in
    let g : pos (near (p -ℤ at)) ≡ p -ℤ at = near_is (p -ℤ at) (omega (arith, ints)) in
    let h : pos (near end) ≡ end = near_is end (omega (arith, ints)) in
    omega (arith, ints)

left_of : (part : CoveredArea) (x y : ℕ) → holds part.at x y ≡ true → part.at.x ≤ x
left_of part x y h = grind (arith, nat_tests)

above_end : (part : CoveredArea) (x y : ℕ) → holds part.at x y ≡ true → y < part.at.y + part.at.h
above_end part x y h = grind (arith, nat_tests)

tile_pixel : (image : Image) (at area : Rect) (from : Point) (part : CoveredArea) (fresh : List ℕ) (x y : ℕ) → IsTaken image at from → IsShared at area part
    → AreBands image part (near from.y) part.at.h fresh → y + 1 < near area.h → slice_index fresh (y + 1) ≡ 0 → x < near area.w
    → holds part.at x y ≡ true → holds part.at x (y + 1) ≡ true → covers at (area.x +ℤ pos x) (area.y +ℤ pos y) ≡ true
    → placed_pixel image at from (area.x +ℤ pos x) (area.y +ℤ pos (y + 1)) ≡ placed_pixel image at from (area.x +ℤ pos x) (area.y +ℤ pos y)
tile_pixel image at area from part fresh x y t shared bands yh z xw h0 h1 on =
    let top = from_top part x y h0 in
    let end = above_end part x (y + 1) h1 in
    let across = inside at.x at.w (area.x +ℤ pos x) (both _ _ on).0 in
    let column = x - part.at.x + (part.left + near from.x) in
    let base = part.above + near from.y in
    let same = shared.column x (left_of part x y h0) in
    let fit = column_in from.x at.x at.w image.rect.w (area.x +ℤ pos x) (x - part.at.x + part.left) t.left t.right across.low across.high same in
    let row : ℕ → Parts = list_colour image.list image.rect column in
    let here : base + (y - part.at.y) ≡ y - part.at.y + base = omega arith in
    let next : base + (y - part.at.y + 1) ≡ y + 1 - part.at.y + base = omega arith in
    let mark : y + 1 ≡ part.at.y + (y - part.at.y + 1) = omega arith in
    let equal = bands (y - part.at.y) (omega arith) (omega arith) (subst (λ (i : ℕ). slice_index fresh i ≡ 0) mark z) column (omega arith) in
    sym (pixel_taken image at area from part x (y + 1) t shared xw yh h1)
    ∙ sym (ap row next) ∙ sym equal ∙ ap row here
    ∙ pixel_taken image at area from part x y t shared xw (omega arith) h0

pub tile_alike : (image : Image) (at area : Rect) (from : Point) (part : CoveredArea) (fresh : List ℕ) → IsTaken image at from → IsShared at area part
    → AreStale area fresh (IsEven area at) → AreBands image part (near from.y) part.at.h fresh → AreStale area fresh (λ y. ActsAlike area y (tiled image at from))
tile_alike image at area from part fresh t shared even bands y yh z passes x below xw =
    let px = area.x +ℤ pos x in
    let upper = placed_pixel image at from px (area.y +ℤ pos y) in
    let lower = placed_pixel image at from px (area.y +ℤ pos (y + 1)) in
    let is = even y yh z x xw in
    ap (λ (b : Bool). cond b (blend below lower) below) is
    ∙ where_held (covers at px (area.y +ℤ pos y)) (blend below lower) (blend below upper) below
    (λ h. ap (blend below) (tile_pixel image at area from part fresh x y t shared bands yh z xw
    (sym (shared.points x y xw (omega arith)) ∙ h) (sym (shared.points x (y + 1) xw yh) ∙ is ∙ h) h))

pub tile_outside : (image : Image) (at area : Rect) (from : Point) (fresh : List ℕ) → IsOutside at area → AreStale area fresh (λ y. ActsAlike area y (tiled image at from))
tile_outside image at area from fresh out y yh z passes x below xw =
    let px = area.x +ℤ pos x in
    ap (λ (b : Bool). cond b (blend below (placed_pixel image at from px (area.y +ℤ pos (y + 1)))) below) (out x (y + 1) xw yh)
    ∙ sym (ap (λ (b : Bool). cond b (blend below (placed_pixel image at from px (area.y +ℤ pos y))) below) (out x y xw (omega arith)))

-- ---- quads, passes and the scene

pub stale_kept : (area : Rect) (old new : List ℕ) (P : ℕ → Type 0) → StaysMarked old new → AreStale area old P → AreStale area new P
stale_kept area old new P keeps stale y yh z = stale y yh (keeps _ z)

pub stale_more : {X : Type 0} (area : Rect) (old new : List ℕ) (P : ℕ → X → Type 0) (xs ys : List X) (x : X) → ys ≡ xs ++ x ∷ [] → StaysMarked old new
    → AreStale area old (λ y. All (P y) xs) → AreStale area new (λ y. P y x) → AreStale area new (λ y. All (P y) ys)
stale_more area old new P xs ys x e keeps before one y yh z =
    subst (All (P y)) (sym e) (All-append (P y) xs (x ∷ []) (before y yh (keeps _ z)) (single (P y) x (one y yh z)))
  where
    single : {X : Type 0} (Q : X → Type 0) (x : X) → Q x → All Q (x ∷ [])
    single Q x q zero d lt = q
    single Q x q (suc k) d lt = absurd (omega arith)

quads_alike : (area : Rect) (y x : ℕ) (passes : List Parts) (below : Parts) (qs : List QuadView) → x < near area.w → All (ActsAlike area y) qs
    → quads_over passes (area.x +ℤ pos x) (area.y +ℤ pos (y + 1)) below qs ≡ quads_over passes (area.x +ℤ pos x) (area.y +ℤ pos y) below qs
quads_alike area y x passes below [] xw all = refl
quads_alike area y x passes below (q ∷ qs) xw all =
    quads_alike area y x passes (quad_over passes (area.x +ℤ pos x) (area.y +ℤ pos (y + 1)) below q) qs xw (λ k d lt. all (suc k) d (omega arith))
    ∙ ap (λ (c : Parts). quads_over passes (area.x +ℤ pos x) (area.y +ℤ pos y) c qs) (all zero q (omega arith) passes x below xw)

root_alike : (area : Rect) (y x : ℕ) (below : Parts) (before : List Parts) (ps : List (List QuadView)) → x < near area.w → All (All (ActsAlike area y)) ps
    → root_pixel (area.x +ℤ pos x) (area.y +ℤ pos (y + 1)) below before ps ≡ root_pixel (area.x +ℤ pos x) (area.y +ℤ pos y) below before ps
root_alike area y x below before [] xw all = refl
root_alike area y x below before (p ∷ []) xw all = quads_alike area y x before below p xw (all zero p (omega arith))
root_alike area y x below before (p ∷ (q ∷ more)) xw all =
    root_alike area y x below (before ++ quads_over before (area.x +ℤ pos x) (area.y +ℤ pos (y + 1)) clear p ∷ []) (q ∷ more) xw (λ k d lt. all (suc k) d (omega arith))
    ∙ ap (λ (c : Parts). root_pixel (area.x +ℤ pos x) (area.y +ℤ pos y) below (before ++ c ∷ []) (q ∷ more))
    (quads_alike area y x before clear p xw (all zero p (omega arith)))

pub scene_alike : (area : Rect) (y x : ℕ) (s : SceneView) → x < near area.w → All (All (ActsAlike area y)) s.passes
    → scene_pixel s (area.x +ℤ pos x) (area.y +ℤ pos (y + 1)) ≡ scene_pixel s (area.x +ℤ pos x) (area.y +ℤ pos y)
unfolding scene_pixel
scene_alike area y x s xw all = root_alike area y x s.background [] s.passes xw all

-- ---- what each scene keeps

placed : (w h n : ℕ) (q : QuadView) → IsSceneSide w → IsSceneSide h → QuadFits w h n q → IsPlaced q
placed w h n (tiled image at from) wide tall f = (sound_in w h at wide tall f.0, f.1)
placed w h n (plain at colour) wide tall f = sound_in w h at wide tall f
placed w h n (grouped pass opacity) wide tall f = tt

all_placed : (w h n : ℕ) (ps : List (List QuadView)) → IsSceneSide w → IsSceneSide h → AreSound w h n ps → All (All IsPlaced) ps
all_placed w h n [] wide tall s k d lt = absurd (omega arith)
all_placed w h n (p ∷ ps) wide tall s zero d lt = All-weaker (QuadFits w h n) IsPlaced (λ q. placed w h n q wide tall) p s.0
all_placed w h n (p ∷ ps) wide tall s (suc k) d lt = all_placed w h (n + 1) ps wide tall s.1 k d (omega arith)

pub scene_placed : (s : SceneView) → IsScene s → All (All IsPlaced) s.passes
scene_placed s is = all_placed s.w s.h 0 s.passes is.wide is.tall is.sound

-- ---- one more in a list

pub view_more : {A B : Type 0} (f : A → B) (xs : List A) (i : ℕ) (x : A) → i < length xs → x ≡ get_or xs i x
    → take (i + 1) (map f xs) ≡ take i (map f xs) ++ f x ∷ []
view_more f xs i x lt e =
    let long : length (map f xs) ≡ length xs = length-map xs f in
    take_more (map f xs) i (f x) (omega arith)
    ∙ ap (λ v. take i (map f xs) ++ v ∷ []) (get_or-map f xs i x (f x) lt ∙ ap f (sym e))

pub view_there : {A B : Type 0} (P : B → Type 0) (f : A → B) (xs : List A) (i : ℕ) (x : A) → All P (map f xs) → i < length xs → x ≡ get_or xs i x → P (f x)
view_there P f xs i x all lt e =
    let long : length (map f xs) ≡ length xs = length-map xs f in
    subst P (get_or-map f xs i x (f x) lt ∙ ap f (sym e)) (all i (f x) (omega arith))

pub view_all : {A B : Type 0} (f : A → B) (xs : List A) (i : ℕ) → length xs ≤ i → take i (map f xs) ≡ map f xs
view_all f xs i le =
    let long : length (map f xs) ≡ length xs = length-map xs f in
    take_all i (map f xs) (omega arith)

pub rows_in : (from len end : ℤ) (above rows : ℕ) → pos 0 ≤ℤ from → pos 0 ≤ℤ len → (from +ℤ len) ≤ℤ end → above + rows ≤ near len
    → above + near from + rows ≤ near end
rows_in from len end above rows low long fit le =
    let f : pos (near from) ≡ from = near_is from low in
    let g : pos (near len) ≡ len = near_is len long in
    let h : pos (near end) ≡ end = near_is end (omega (arith, ints)) in
    omega (arith, ints)
