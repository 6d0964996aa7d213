-- Marking what a quad hides, block by block.
use Rattle.std.proofs.Common.{◌≡◌, ◌⊎◌, inl, inr, ℕ, zero, suc, ◌+◌, ◌-◌, ◌*◌, ◌/◌, ◌<◌, ◌≤◌, ℤ, pos, ◌+ℤ◌, Bool, true, false, cond, List, [], ◌∷◌, length, get_or, slice_index, refl, sym, ◌∙◌, ap, subst, arith}
use Rattle.std.specs.Prelude.{◌≢◌, replicate}
use Rattle.std.proofs.lemmas.Bool.{cases_lt}
use Rattle.std.proofs.lemmas.Bool.Decides.{nat_tests}
use Rattle.geom.specs.declared.Rect.{Rect}
use Rattle.geom.specs.declared.Point.{Point}
use Rattle.geom.specs.Covers.{covers}
use Rattle.pixel.specs.Colours.{Parts, blend}
use Rattle.pixel.specs.Rows.{pixel}
use Rattle.pixel.specs.Surfaces.{in_rows, holds}
use Rattle.pixel.specs.declared.Area.{Area}
use Rattle.pixel.proofs.Blends.{opaque_hides}
use Rattle.page_display_list.specs.declared.CoveredArea.{CoveredArea}
use Rattle.page_display_list.specs.Bitmaps.{near}
use Rattle.page_display_list.specs.Shared.{IsShared}
use Rattle.tile_raster.specs.Images.{Image, IsRow, AreSameRows, IsOneColour}
use Rattle.viz_scene.specs.declared.Quad.{Quad}
use Rattle.viz_scene.specs.Views.{quad_view, tiled, plain}
use Rattle.viz_scene.specs.Pixels.{placed_pixel}
use Rattle.viz_scene.specs.Sound.{IsTaken}
use Rattle.viz_render.specs.inner.Drawing.{rows_from, part_pixel}
use Rattle.viz_render.specs.inner.Masks.{top, Hides, HidesIn, IsOfBlock, Marks, AreMarked, HaveNumbers, AreNumbers, AreOpenNumbers, AreHidden}
use Rattle.viz_render.proofs.Hulls.{area_left, area_right}
use Rattle.viz_render.proofs.Tiles.{taken, pixel_taken, solid_pixel, band_pixel}

-- no marks
pub marks_none : (n : ℕ) (H : ℕ → ℕ → Type 0) (tops : List ℕ) → length tops ≡ 1032 → Marks n H tops tops
marks_none n H tops size = record { size = size; blocks = λ x y lt. inl refl }

-- marks after marks
pub marks_more : (n : ℕ) (H : ℕ → ℕ → Type 0) (start old new : List ℕ) → Marks n H start old → Marks n H old new → Marks n H start new
marks_more n H start old new before after = record {
  size = after.size;
  blocks = λ x y lt.
      elim (after.blocks x y lt) as (λ _. (top new x y ≡ top start x y) ⊎ ((top new x y ≡ n) × H x y)) [
        | inl same ↦ elim (before.blocks x y lt) as (λ _. (top new x y ≡ top start x y) ⊎ ((top new x y ≡ n) × H x y)) [
          | inl was ↦ inl (same ∙ was)
          | inr was ↦ inr (same ∙ was.0, was.1)
        ]
        | inr now ↦ inr now
      ];
}

-- marks where something weaker holds
pub marks_like : (n : ℕ) (H G : ℕ → ℕ → Type 0) (old new : List ℕ) → Marks n H old new → ((x y : ℕ) → H x y → G x y) → Marks n G old new
marks_like n H G old new marks weaker = record {
  size = marks.size;
  blocks = λ x y lt.
      elim (marks.blocks x y lt) as (λ _. (top new x y ≡ top old x y) ⊎ ((top new x y ≡ n) × G x y)) [
        | inl same ↦ inl same
        | inr now ↦ inr (now.0, weaker x y now.1)
      ];
}

one_block : (at : Area) (block down place n : ℕ) (old new : List ℕ) → place ≡ down * 129 + block → (at.y + 7) / 8 ≤ down → down < (at.y + at.h) / 8 → block < 128
    → (slice_index new place ≡ slice_index old place) ⊎ (slice_index new place ≡ n)
    → ((i : ℕ) → i ≢ place → slice_index new i ≡ slice_index old i)
    → (x y : ℕ) → x < 2064 → (top new x y ≡ top old x y) ⊎ ((top new x y ≡ n) × IsOfBlock at block x y)
unfolding top
one_block at block down place n old new is from to few there other x y lt =
    let i : ℕ = y / 8 * 129 + x / 16 in
    let Goal : Type 0 = (slice_index new (y / 8 * 129 + x / 16) ≡ slice_index old (y / 8 * 129 + x / 16)) ⊎ ((slice_index new (y / 8 * 129 + x / 16) ≡ n) × IsOfBlock at block x y) in
    elim (cases_lt (y / 8 * 129 + x / 16) place) as (λ _. Goal) [
      | inl less ↦ inl (other (y / 8 * 129 + x / 16) (λ e. absurd (omega arith)))
      | inr from_here ↦ elim (cases_lt place (y / 8 * 129 + x / 16)) as (λ _. Goal) [
        | inl more ↦ inl (other (y / 8 * 129 + x / 16) (λ e. absurd (omega arith)))
        | inr to_here ↦
            let here : y / 8 * 129 + x / 16 ≡ place = omega arith in
            elim there as (λ _. Goal) [
              | inl same ↦ inl (ap (slice_index new) here ∙ same ∙ sym (ap (slice_index old) here))
              | inr now ↦ inr (ap (slice_index new) here ∙ now, (omega arith, omega arith, omega arith))
            ]
      ]
    ]

-- one block
pub one_marked : (at : Area) (block down place n : ℕ) (old new : List ℕ) → length new ≡ 1032 → place ≡ down * 129 + block → (at.y + 7) / 8 ≤ down → down < (at.y + at.h) / 8 → block < 128
    → (slice_index new place ≡ slice_index old place) ⊎ (slice_index new place ≡ n)
    → ((i : ℕ) → i ≢ place → slice_index new i ≡ slice_index old i)
    → Marks n (IsOfBlock at block) old new
one_marked at block down place n old new size is from to few there other = record { size = size; blocks = one_block at block down place n old new is from to few there other }

-- sixteen columns of an area
pub block_held : (at : Area) (block x y : ℕ) → (at.x + 15) / 16 ≤ block → block < (at.x + at.w) / 16 → IsOfBlock at block x y → holds at x y ≡ true
block_held at block x y from to is =
    let a = is.0 in
    let b = is.1 in
    let c = is.2 in
    let left : at.x ≤ x = omega arith in
    let right : x < at.x + at.w = omega arith in
    grind (arith, nat_tests)

-- sixteen opaque pixels of a row
pub block_hides : (at : Area) (block from x y : ℕ) (row : List ℕ) → (at.x + 15) / 16 ≤ block → block < (at.x + at.w) / 16
    → ((j : ℕ) → j < 16 → (below : Parts) → pixel row (16 * block - at.x + from + j) ≡ blend below (pixel row (16 * block - at.x + from + j)))
    → IsOfBlock at block x y → HidesIn at (λ x y. pixel row (x - at.x + from)) x y
block_hides at block from x y row low high opaque is =
    let a = is.0 in
    let here : 16 * block - at.x + from + (x - 16 * block) ≡ x - at.x + from = omega arith in
    let hides = subst (λ (k : ℕ). (below : Parts) → pixel row k ≡ blend below (pixel row k)) here (opaque (x - 16 * block) (omega arith)) in
    (block_held at block x y low high is, λ c d. sym (hides c) ∙ hides d)

-- the pixels of a row, and of the rows that are equal to it
pub band_hides : (image : Image) (part : CoveredArea) (row rows : ℕ) (bytes : List ℕ) → IsRow image.list image.rect (part.above + row) bytes
    → ((k : ℕ) → k < rows → AreSameRows image.list image.rect (part.above + row) (part.above + row + k))
    → part.left + part.at.w ≤ near image.rect.w → row + rows ≤ part.at.h
    → (x y : ℕ) → HidesIn (rows_from part.at row rows) (λ x y. pixel bytes (x - part.at.x + part.left)) x y → HidesIn part.at (part_pixel image part) x y
band_hides image part row rows bytes is equal fit low x y hides = (
  in_whole part.at row rows x y low hides.0,
  subst (λ (p : Parts). (c d : Parts) → blend c p ≡ blend d p) (band_pixel image part row rows bytes x y is equal fit hides.0) hides.1,
)
  where
    in_whole : (at : Area) (row rows x y : ℕ) → row + rows ≤ at.h → in_rows (rows_from at row rows) rows x y ≡ true → in_rows at at.h x y ≡ true
    in_whole at row rows x y low held = grind (arith, nat_tests)

-- sixteen opaque pixels of a row, and of the rows that are equal to it, of a block after others
pub joint_hides : (image : Image) (part : CoveredArea) (block down done rows row : ℕ) (bytes : List ℕ) → IsRow image.list image.rect (part.above + row) bytes
    → ((k : ℕ) → k < rows → AreSameRows image.list image.rect (part.above + row) (part.above + row + k))
    → part.left + part.at.w ≤ near image.rect.w → row + rows ≤ part.at.h → part.at.y + row ≡ 8 * down + done
    → (part.at.x + 15) / 16 ≤ block → block < (part.at.x + part.at.w) / 16 → part.at.y ≤ 8 * down
    → ((j : ℕ) → j < 16 → (below : Parts) → pixel bytes (16 * block - part.at.x + part.left + j) ≡ blend below (pixel bytes (16 * block - part.at.x + part.left + j)))
    → ((x y : ℕ) → x / 16 ≡ block → 8 * down ≤ y → y < 8 * down + done → HidesIn part.at (part_pixel image part) x y)
    → (x y : ℕ) → x / 16 ≡ block → 8 * down ≤ y → y < 8 * down + (done + rows) → HidesIn part.at (part_pixel image part) x y
joint_hides image part block down done rows row bytes is equal fit low there from to above opaque before x y column start bottom =
    elim (cases_lt y (8 * down + done)) as (λ _. HidesIn part.at (part_pixel image part) x y) [
      | inl less ↦ before x y column start less
      | inr rest ↦
          band_hides image part row rows bytes is equal fit low x y
          (block_hides (rows_from part.at row rows) block part.left x y bytes from to opaque (column, omega arith, omega arith))
    ]

-- where a test holds, what it chooses
chosen : (t : Bool) (a b c d : Parts) → t ≡ true → a ≡ b → cond t a c ≡ cond t b d
chosen true a b c d held same = same
chosen false a b c d held same = cc

-- a tile hides what the part of its image hides
pub tile_hides : (image : Image) (at area : Rect) (from : Point) (part : CoveredArea) → IsTaken image at from → IsShared at area part
    → (x y : ℕ) → HidesIn part.at (part_pixel image (taken part from)) x y
    → x < near area.w → y < near area.h → Hides (tiled image at from) (area.x +ℤ pos x) (area.y +ℤ pos y)
tile_hides image at area from part t shared x y hides xw yh passes c d =
    let px = area.x +ℤ pos x in
    let py = area.y +ℤ pos y in
    let is = pixel_taken image at area from part x y t shared xw yh hides.0 in
    chosen (covers at px py) (blend c (placed_pixel image at from px py)) (blend d (placed_pixel image at from px py)) c d (shared.points x y xw yh ∙ hides.0)
    (subst (λ (p : Parts). blend c p ≡ blend d p) is (hides.1 c d))

-- an opaque colour hides what is below it
pub colour_hides : (at area : Rect) (colour : Parts) (part : CoveredArea) → IsShared at area part → colour.a ≡ 255
    → (x y : ℕ) → holds part.at x y ≡ true → x < near area.w → y < near area.h → Hides (plain at colour) (area.x +ℤ pos x) (area.y +ℤ pos y)
colour_hides at area colour part shared opaque x y held xw yh passes c d =
    chosen (covers at (area.x +ℤ pos x) (area.y +ℤ pos y)) (blend c colour) (blend d colour) c d (shared.points x y xw yh ∙ held)
    (opaque_hides c colour opaque ∙ sym (opaque_hides d colour opaque))

-- an image of one colour hides what the colour hides
pub solid_hides : (image : Image) (at : Rect) (from : Point) (colour : Parts) (x y : ℤ) → IsTaken image at from → IsOneColour image.list image.rect colour
    → Hides (plain at colour) x y → Hides (tiled image at from) x y
solid_hides image at from colour x y t one hides passes c d =
    by_test (covers at x y) colour (placed_pixel image at from x y) c d (λ held. solid_pixel image at from colour x y t one held) (hides passes c d)
  where
    by_test : (b : Bool) (p q c d : Parts) → (b ≡ true → p ≡ q) → cond b (blend c p) c ≡ cond b (blend d p) d → cond b (blend c q) c ≡ cond b (blend d q) d
    by_test true p q c d same e = subst (λ (r : Parts). blend c r ≡ blend d r) (same refl) e
    by_test false p q c d same e = e

-- an item of a list, whatever else it would be
same_item : (quads : List Quad) (k : ℕ) (q p : Quad) → k < length quads → get_or quads k q ≡ get_or quads k p
same_item [] k q p lt = absurd (omega arith)
same_item (r ∷ quads) zero q p lt = refl
same_item (r ∷ quads) (suc k) q p lt = same_item quads k q p (omega arith)

-- one more quad of a mask
pub quad_marked : (area : Rect) (quads : List Quad) (k n : ℕ) (q : Quad) (old new : List ℕ) → near area.w ≤ 2048 → AreMarked area quads old → k < length quads → n ≡ k + 1
    → q ≡ get_or quads k q
    → Marks n (λ x y. x < near area.w → y < near area.h → Hides (quad_view q) (area.x +ℤ pos x) (area.y +ℤ pos y)) old new
    → AreMarked area quads new
quad_marked area quads k n q old new wide marked lt number e marks x y j xw yh is few p f =
    elim (marks.blocks x y (omega arith)) as (λ _. Hides (quad_view p) (area.x +ℤ pos x) (area.y +ℤ pos y)) [
      | inl same ↦ marked x y j xw yh (sym same ∙ is) few p f
      | inr now ↦
          let there = now.0 in
          let here : j ≡ k = omega arith in
          let item : get_or quads k p ≡ get_or quads k q = same_item quads k p q lt in
          let one : q ≡ p = e ∙ sym item ∙ sym (ap (λ (i : ℕ). get_or quads i p) here) ∙ sym f in
          subst (λ (r : Quad). Hides (quad_view r) (area.x +ℤ pos x) (area.y +ℤ pos y)) one (now.1 xw yh)
    ]

-- and its number
pub numbers_more : (most n : ℕ) (H : ℕ → ℕ → Type 0) (start old new : List ℕ) → n ≤ most → HaveNumbers most start old → Marks n H old new → HaveNumbers most start new
numbers_more most n H start old new le before marks x y lt =
    elim (marks.blocks x y lt) as (λ _. (top new x y ≡ top start x y) ⊎ (top new x y ≤ most)) [
      | inl same ↦ elim (before x y lt) as (λ _. (top new x y ≡ top start x y) ⊎ (top new x y ≤ most)) [
        | inl was ↦ inl (same ∙ was)
        | inr few ↦ inr (omega arith)
      ]
      | inr now ↦ let is = now.0 in inr (omega arith)
    ]

-- a mask of zeros
pub none_marked : (area : Rect) (quads : List Quad) (tops : List ℕ) → ((i : ℕ) → slice_index tops i ≤ 0) → AreMarked area quads tops
unfolding top
none_marked area quads tops zeros x y k xw yh is few q e = let none = zeros (y / 8 * 129 + x / 16) in absurd (omega arith)

pub none_numbered : (n : ℕ) (tops : List ℕ) → ((i : ℕ) → slice_index tops i ≤ 0) → AreNumbers n tops
unfolding top
none_numbered n tops zeros x y xw yh = let none = zeros (y / 8 * 129 + x / 16) in omega arith

-- numbers given to one
pub zeros_numbered : (n : ℕ) (old new : List ℕ) → ((i : ℕ) → slice_index old i ≤ 0) → HaveNumbers n old new → AreNumbers n new
unfolding top
zeros_numbered n old new zeros have x y xw yh =
    let none = zeros (y / 8 * 129 + x / 16) in
    elim (have x y xw) as (λ _. slice_index new (y / 8 * 129 + x / 16) ≤ n) [
      | inl same ↦ omega arith
      | inr few ↦ few
    ]

-- a row of blocks whose numbers are above
pub row_above : (at : Area) (tops : List ℕ) (number down : ℕ) → ((x y : ℕ) → holds at x y ≡ true → y / 8 < down → number < top tops x y)
    → ((i : ℕ) → down * 129 + at.x / 16 ≤ i → i < down * 129 + (at.x + at.w + 15) / 16 → number < slice_index tops i)
    → (x y : ℕ) → holds at x y ≡ true → y / 8 < down + 1 → number < top tops x y
unfolding top
row_above at tops number down before above x y held lt =
    elim (cases_lt (y / 8) down) as (λ _. number < slice_index tops (y / 8 * 129 + x / 16)) [
      | inl less ↦ before x y held less
      | inr from ↦
          let left = area_left at x y held in
          let right = area_right at x y held in
          above (y / 8 * 129 + x / 16) (omega arith) (omega arith)
    ]

-- ---- blocks that the root's mask hides

-- one more block
pub hidden_more : (root : List ℕ) (last number count : ℕ) (old new : List ℕ) → AreHidden root last number count old
    → (slice_index new count ≡ 0) ⊎ ((last < slice_index root count) × (slice_index new count ≡ number))
    → ((i : ℕ) → i ≢ count → slice_index new i ≡ slice_index old i)
    → AreHidden root last number (count + 1) new
hidden_more root last number count old new before there other i lt =
    elim (cases_lt i count) as (λ _. (slice_index new i ≡ 0) ⊎ ((last < slice_index root i) × (slice_index new i ≡ number))) [
      | inl less ↦
          let same = other i (λ e. absurd (omega arith)) in
          elim (before i less) as (λ _. (slice_index new i ≡ 0) ⊎ ((last < slice_index root i) × (slice_index new i ≡ number))) [
            | inl none ↦ inl (same ∙ none)
            | inr hidden ↦ inr (hidden.0, same ∙ hidden.1)
          ]
      | inr from ↦
          let here : count ≡ i = omega arith in
          subst (λ (k : ℕ). (slice_index new k ≡ 0) ⊎ ((last < slice_index root k) × (slice_index new k ≡ number))) here there
    ]

-- none of them has the number of a quad
pub hidden_marked : (area : Rect) (quads : List Quad) (root : List ℕ) (last number : ℕ) (tops : List ℕ) → near area.w ≤ 2048 → near area.h ≤ 64 → length quads < number
    → AreHidden root last number 1032 tops → AreMarked area quads tops
unfolding top
hidden_marked area quads root last number tops wide low more hidden x y k xw yh is few q e =
    elim (hidden (y / 8 * 129 + x / 16) (omega arith)) as (λ _. Hides (quad_view q) (area.x +ℤ pos x) (area.y +ℤ pos y)) [
      | inl none ↦ absurd (omega arith)
      | inr there ↦ let number_is = there.1 in absurd (omega arith)
    ]

hidden_at : (root : List ℕ) (last number : ℕ) (tops : List ℕ) (x y n : ℕ) → AreHidden root last number 1032 tops → x < 2064 → y < 64 → top root x y ≤ last
    → top tops x y ≤ n
unfolding top
hidden_at root last number tops x y n hidden xw yh seen =
    elim (hidden (y / 8 * 129 + x / 16) (omega arith)) as (λ _. slice_index tops (y / 8 * 129 + x / 16) ≤ n) [
      | inl none ↦ omega arith
      | inr there ↦ let over = there.0 in absurd (omega arith)
    ]

pub hidden_numbered : (n : ℕ) (root : List ℕ) (last number : ℕ) (tops : List ℕ) → AreHidden root last number 1032 tops → AreOpenNumbers n root last tops
hidden_numbered n root last number tops hidden x y xw yh seen = hidden_at root last number tops x y n hidden xw yh seen

-- and numbers given to them then
pub open_numbered : (n : ℕ) (root : List ℕ) (last number : ℕ) (old new : List ℕ) → AreHidden root last number 1032 old → HaveNumbers n old new → AreOpenNumbers n root last new
open_numbered n root last number old new hidden have x y xw yh seen =
    let none = hidden_at root last number old x y n hidden xw yh seen in
    elim (have x y xw) as (λ _. top new x y ≤ n) [
      | inl same ↦ omega arith
      | inr few ↦ few
    ]

-- a list of zeros
pub zeros : (n i : ℕ) → slice_index (replicate n 0) i ≡ 0
zeros zero i = refl
zeros (suc n) zero = refl
zeros (suc n) (suc i) = zeros n i

-- nothing is left where the highest number is 0
pub none_left : (tops : List ℕ) (highest : ℕ) → ((i : ℕ) → slice_index tops i ≤ highest) → highest ≤ 0 → (i : ℕ) → slice_index tops i ≤ 0
none_left tops highest bound none i = let b = bound i in omega arith
