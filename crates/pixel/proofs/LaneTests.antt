-- Tests of all lanes of a vector, and the lesser and the greater of the lanes of two.
use Rattle.std.proofs.Common.{◌≡◌, inl, inr, ℕ, zero, suc, ◌+◌, ◌-◌, ◌%◌, ◌^◌, ◌<◌, ◌≤◌, ◌↔◌, Bool, true, false, not, cond, eqb, ltb, List, [], ◌∷◌, map, length, slice_index, replicate, refl, sym, ap, ◌∙◌, arith, eqb-true, ltb-true, ltb-false, eq-eqb}
use Rattle.std.proofs.lemmas.Bool.{eqb-false, cases_lt}
use Rattle.std.proofs.lemmas.Bool.Decides.{nat_tests}
use Rattle.std.proofs.lemmas.List.{length-map}
use Rattle.std.proofs.lemmas.Simd.{length-zip2, mask_l-mod, get_or-chunk}
use lib.Lanes.{zip2, sel_l, mask_l, top, chunk}
use Rattle.pixel.specs.Colours.{Parts, above}
use Rattle.pixel.specs.Rows.{alpha_place, component_of, AreOpaque, AreClear}
use Rattle.pixel.specs.LaneBytes.{IsBytes}
use Rattle.pixel.proofs.LaneWise.{repeated, four_pixels}

-- ---- the lesser and the greater

abbrev pub below_mask : ℕ → ℕ → ℕ
below_mask a b = cond (ltb a b) 255 0

one_lesser : (a b : ℕ) → (cond (top 7 (below_mask a b)) a b ≤ a) × (cond (top 7 (below_mask a b)) a b ≤ b)
one_lesser a b = go (ltb a b) refl
  where
    go : (t : Bool) → ltb a b ≡ t → (cond (top 7 (cond t 255 0)) a b ≤ a) × (cond (top 7 (cond t 255 0)) a b ≤ b)
    go true e = (omega arith, omega (arith, ltb-true _ _ e))
    go false e = (omega (arith, ltb-false _ _ e), omega arith)

one_greater : (a b : ℕ) → (a ≤ cond (top 7 (below_mask a b)) b a) × (b ≤ cond (top 7 (below_mask a b)) b a)
one_greater a b = go (ltb a b) refl
  where
    go : (t : Bool) → ltb a b ≡ t → (a ≤ cond (top 7 (cond t 255 0)) b a) × (b ≤ cond (top 7 (cond t 255 0)) b a)
    go true e = (omega (arith, ltb-true _ _ e), omega arith)
    go false e = (omega arith, omega (arith, ltb-false _ _ e))

abbrev pub lesser_lanes : List ℕ → List ℕ → List ℕ
lesser_lanes xs ys = sel_l (map (top 7) (zip2 below_mask xs ys)) xs ys

abbrev pub greater_lanes : List ℕ → List ℕ → List ℕ
greater_lanes xs ys = sel_l (map (top 7) (zip2 below_mask xs ys)) ys xs

pub lesser_len : (xs ys : List ℕ) → length xs ≡ length ys → length (lesser_lanes xs ys) ≡ length xs
lesser_len [] ys e = refl
lesser_len (x ∷ xs) [] e = absurd (omega arith)
lesser_len (x ∷ xs) (y ∷ ys) e = ap suc (lesser_len xs ys (omega arith))

pub greater_len : (xs ys : List ℕ) → length xs ≡ length ys → length (greater_lanes xs ys) ≡ length xs
greater_len [] ys e = refl
greater_len (x ∷ xs) [] e = absurd (omega arith)
greater_len (x ∷ xs) (y ∷ ys) e = ap suc (greater_len xs ys (omega arith))

pub lesser_at : (xs ys : List ℕ) (i : ℕ) → i < length xs → i < length ys
    → (slice_index (lesser_lanes xs ys) i ≤ slice_index xs i) × (slice_index (lesser_lanes xs ys) i ≤ slice_index ys i)
lesser_at [] ys i p q = absurd (omega arith)
lesser_at (x ∷ xs) [] i p q = absurd (omega arith)
lesser_at (x ∷ xs) (y ∷ ys) zero p q = one_lesser x y
lesser_at (x ∷ xs) (y ∷ ys) (suc i) p q = lesser_at xs ys i (omega arith) (omega arith)

pub greater_at : (xs ys : List ℕ) (i : ℕ) → i < length xs → i < length ys
    → (slice_index xs i ≤ slice_index (greater_lanes xs ys) i) × (slice_index ys i ≤ slice_index (greater_lanes xs ys) i)
greater_at [] ys i p q = absurd (omega arith)
greater_at (x ∷ xs) [] i p q = absurd (omega arith)
greater_at (x ∷ xs) (y ∷ ys) zero p q = one_greater x y
greater_at (x ∷ xs) (y ∷ ys) (suc i) p q = greater_at xs ys i (omega arith) (omega arith)

-- a lane of sixteen bytes of a row
row_lane : (at start : ℕ) (row : List ℕ) (i : ℕ) → start ≤ i → i < start + 16 → start % 16 ≡ 0
    → slice_index (chunk (at + start) 16 row) (i % 16) ≡ slice_index row (at + i)
row_lane at start row i from to whole =
    let place : at + start + i % 16 ≡ at + i = omega arith in
    get_or-chunk (at + start) 16 row (i % 16) 0 (omega arith) ∙ ap (slice_index row) place

first_lane : (at : ℕ) (row : List ℕ) (i : ℕ) → i < 16 → slice_index (chunk at 16 row) (i % 16) ≡ slice_index row (at + i)
first_lane at row i lt =
    let place : at + i % 16 ≡ at + i = omega arith in
    get_or-chunk at 16 row (i % 16) 0 (omega arith) ∙ ap (slice_index row) place

pub least_of_four : (at : ℕ) (row v a b : List ℕ)
    → ((j : ℕ) → j < 16 → (slice_index v j ≤ slice_index a j) × (slice_index v j ≤ slice_index b j))
    → ((j : ℕ) → j < 16 → (slice_index a j ≤ slice_index (chunk at 16 row) j) × (slice_index a j ≤ slice_index (chunk (at + 16) 16 row) j))
    → ((j : ℕ) → j < 16 → (slice_index b j ≤ slice_index (chunk (at + 32) 16 row) j) × (slice_index b j ≤ slice_index (chunk (at + 48) 16 row) j))
    → (i : ℕ) → i < 64 → slice_index v (i % 16) ≤ slice_index row (at + i)
least_of_four at row v a b above first last i lt =
    let j = i % 16 in
    let low : j < 16 = omega arith in
    let of_v = above j low in
    let of_a = first j low in
    let of_b = last j low in
    elim (cases_lt i 16) as (λ _. slice_index v (i % 16) ≤ slice_index row (at + i)) [
      | inl one ↦ omega (arith, of_v.0, of_a.0, first_lane at row i one)
      | inr from ↦ elim (cases_lt i 32) as (λ _. slice_index v (i % 16) ≤ slice_index row (at + i)) [
        | inl two ↦ omega (arith, of_v.0, of_a.1, row_lane at 16 row i (omega arith) (omega arith) refl)
        | inr on ↦ elim (cases_lt i 48) as (λ _. slice_index v (i % 16) ≤ slice_index row (at + i)) [
          | inl three ↦ omega (arith, of_v.1, of_b.0, row_lane at 32 row i (omega arith) (omega arith) refl)
          | inr four ↦ omega (arith, of_v.1, of_b.1, row_lane at 48 row i (omega arith) (omega arith) refl)
        ]
      ]
    ]

pub greatest_of_four : (at : ℕ) (row v a b : List ℕ)
    → ((j : ℕ) → j < 16 → (slice_index a j ≤ slice_index v j) × (slice_index b j ≤ slice_index v j))
    → ((j : ℕ) → j < 16 → (slice_index (chunk at 16 row) j ≤ slice_index a j) × (slice_index (chunk (at + 16) 16 row) j ≤ slice_index a j))
    → ((j : ℕ) → j < 16 → (slice_index (chunk (at + 32) 16 row) j ≤ slice_index b j) × (slice_index (chunk (at + 48) 16 row) j ≤ slice_index b j))
    → (i : ℕ) → i < 64 → slice_index row (at + i) ≤ slice_index v (i % 16)
greatest_of_four at row v a b above first last i lt =
    let j = i % 16 in
    let low : j < 16 = omega arith in
    let of_v = above j low in
    let of_a = first j low in
    let of_b = last j low in
    elim (cases_lt i 16) as (λ _. slice_index row (at + i) ≤ slice_index v (i % 16)) [
      | inl one ↦ omega (arith, of_v.0, of_a.0, first_lane at row i one)
      | inr from ↦ elim (cases_lt i 32) as (λ _. slice_index row (at + i) ≤ slice_index v (i % 16)) [
        | inl two ↦ omega (arith, of_v.0, of_a.1, row_lane at 16 row i (omega arith) (omega arith) refl)
        | inr on ↦ elim (cases_lt i 48) as (λ _. slice_index row (at + i) ≤ slice_index v (i % 16)) [
          | inl three ↦ omega (arith, of_v.1, of_b.0, row_lane at 32 row i (omega arith) (omega arith) refl)
          | inr four ↦ omega (arith, of_v.1, of_b.1, row_lane at 48 row i (omega arith) (omega arith) refl)
        ]
      ]
    ]

-- ---- tests of all lanes

mask_small : (f : ℕ → ℕ → ℕ) (xs ys : List ℕ) → length xs ≡ 16 → length ys ≡ 16 → mask_l (map (top 7) (zip2 f xs ys)) % 2 ^ 64 ≡ mask_l (map (top 7) (zip2 f xs ys))
mask_small f xs ys p q = mask_l-mod _ 64 (omega (arith, length-map (zip2 f xs ys) (top 7), length-zip2 f xs ys (p ∙ sym q)))

-- no lane of xs is below that of ys
abbrev AreLeast : List ℕ → List ℕ → Type 0
AreLeast xs ys = (i : ℕ) → i < length xs → slice_index ys i ≤ slice_index xs i

flag_below : (x y : ℕ) → (◌≡◌ {A = ℕ} (cond (top 7 (below_mask x y)) 1 0) 0) ↔ (y ≤ x)
flag_below x y = go (ltb x y) refl
  where
    go : (t : Bool) → ltb x y ≡ t → (◌≡◌ {A = ℕ} (cond (top 7 (cond t 255 0)) 1 0) 0) ↔ (y ≤ x)
    go true e = (λ q. absurd (omega arith), λ le. absurd (omega (arith, ltb-true _ _ e)))
    go false e = (λ _. omega (arith, ltb-false _ _ e), λ _. refl)

none_below : (xs ys : List ℕ) → length xs ≡ length ys → (mask_l (map (top 7) (zip2 below_mask xs ys)) ≡ 0) ↔ AreLeast xs ys
none_below [] [] e = (λ _ i lt. absurd (omega arith), λ _. refl)
none_below [] (y ∷ ys) e = absurd (omega arith)
none_below (x ∷ xs) [] e = absurd (omega arith)
none_below (x ∷ xs) (y ∷ ys) e =
    let r = none_below xs ys (omega arith) in (
      λ z. elim [ zero ↦ λ lt. (flag_below x y).0 (omega arith) | suc i ↦ λ lt. r.0 (omega arith) i (omega arith) ],
      λ h. omega (arith, (flag_below x y).1 (h 0 (omega arith)), r.1 (λ i lt. h (suc i) (omega arith))),
    )

-- black
abbrev black : Parts
black = record { r = 0; g = 0; b = 0; a = 255 }

opaque_lanes : (v : List ℕ) → IsBytes v → AreLeast v (repeated 4 black) ↔ AreOpaque 0 16 v
opaque_lanes v b = (
  λ h i from lt.
      let place : alpha_place i % 4 ≡ 3 = omega arith in
      let there = four_pixels black black (alpha_place i) refl refl refl refl (omega arith) ∙ ap (component_of black) place in
      let least = h (alpha_place i) (omega (arith, b.count)) in
      let most = b.bytes (alpha_place i) (omega arith) in
      omega arith,
  λ h i lt.
      let short : i < 16 = omega (arith, b.count) in
      let there = four_pixels black black i refl refl refl refl short in
      let here = h i (omega arith) short in
      part_least v i there here,
)
  where
    part_least : (v : List ℕ) (i : ℕ) → slice_index (repeated 4 black) i ≡ component_of black (i % 4) → slice_index v (alpha_place i) ≡ 255
        → slice_index (repeated 4 black) i ≤ slice_index v i
    part_least v i there here = part_by (eqb (i % 4) 3) refl
      where
        part_by : (t : Bool) → (eqb (i % 4) 3) ≡ t → slice_index (repeated 4 black) i ≤ slice_index v i
        part_by true e =
            let last : i % 4 ≡ 3 = eqb-true _ _ e in
            let place : alpha_place i ≡ i = omega arith in
            let value = sym (ap (slice_index v) place) ∙ here in
            let black_here = there ∙ ap (component_of black) last in
            omega arith
        part_by false e =
            let other = eqb-false _ _ e in
            let none : component_of black (i % 4) ≡ 0 = grind (arith, nat_tests) in
            omega (arith, there ∙ none)

pub opaque_of_mask : (v : List ℕ) → IsBytes v → (eqb (mask_l (map (top 7) (zip2 below_mask v (repeated 4 black))) % 2 ^ 64) 0 ≡ true) ↔ AreOpaque 0 16 v
opaque_of_mask v b =
    let small = mask_small below_mask v (repeated 4 black) b.count refl in
    let none = none_below v (repeated 4 black) b.count in
    let lanes = opaque_lanes v b in
    (λ e. lanes.0 (none.0 (sym small ∙ eqb-true _ _ e)), λ h. eq-eqb _ _ (small ∙ none.1 (lanes.1 h)))

abbrev pub differs : ℕ → ℕ → ℕ
differs a b = cond (not (eqb a b)) 255 0

flag_differs : (x : ℕ) → (◌≡◌ {A = ℕ} (cond (top 7 (differs x 0)) 1 0) 0) ↔ (x ≡ 0)
flag_differs x = go (eqb x 0) refl
  where
    go : (t : Bool) → eqb x 0 ≡ t → (◌≡◌ {A = ℕ} (cond (top 7 (cond (not t) 255 0)) 1 0) 0) ↔ (x ≡ 0)
    go true e = (λ _. eqb-true _ _ e, λ _. refl)
    go false e = (λ q. absurd (omega arith), λ z. absurd (eqb-false _ _ e z))

none_differ : (xs : List ℕ) → (mask_l (map (top 7) (zip2 differs xs (replicate (length xs) 0))) ≡ 0) ↔ ((i : ℕ) → i < length xs → slice_index xs i ≡ 0)
none_differ [] = (λ _ i lt. absurd (omega arith), λ _. refl)
none_differ (x ∷ xs) =
    let r = none_differ xs in (
      λ z. elim [ zero ↦ λ lt. (flag_differs x).0 (omega arith) | suc i ↦ λ lt. r.0 (omega arith) i (omega arith) ],
      λ h. omega (arith, (flag_differs x).1 (h 0 (omega arith)), r.1 (λ i lt. h (suc i) (omega arith))),
    )

pub clear_of_mask : (v : List ℕ) → IsBytes v → (eqb (mask_l (map (top 7) (zip2 differs v (replicate 16 0))) % 2 ^ 64) 0 ≡ true) ↔ AreClear 0 16 v
clear_of_mask v b =
    let small = mask_small differs v (replicate 16 0) b.count refl in
    let r = none_differ v in
    let size = ap (λ (n : ℕ). mask_l (map (top 7) (zip2 differs v (replicate n 0)))) b.count in (
      λ e i from lt. r.0 (size ∙ sym small ∙ eqb-true _ _ e) i (omega (arith, b.count)),
      λ h. eq-eqb _ _ (small ∙ sym size ∙ r.1 (λ i lt. h i (omega arith) (omega (arith, b.count)))),
    )

-- sixty-four bytes are opaque where the least of each column of four are
pub opaque_block : (at : ℕ) (row v : List ℕ) → at % 4 ≡ 0 → ((i : ℕ) → slice_index row i < 256)
    → ((i : ℕ) → i < 64 → slice_index v (i % 16) ≤ slice_index row (at + i)) → AreOpaque 0 16 v → AreOpaque at 64 row
opaque_block at row v whole bytes least opaque i from to =
    let j = alpha_place i - at in
    let lane : alpha_place (j % 16) ≡ j % 16 = omega arith in
    let place : at + j ≡ alpha_place i = omega arith in
    let low = least j (omega arith) in
    let top = opaque (j % 16) (omega arith) (omega arith) in
    let here = ap (slice_index v) lane in
    let there = ap (slice_index row) place in
    let most = bytes (alpha_place i) in
    omega arith

-- sixty-four bytes are 0 where the greatest of each column of four are
pub clear_block : (at : ℕ) (row v : List ℕ)
    → ((i : ℕ) → i < 64 → slice_index row (at + i) ≤ slice_index v (i % 16)) → AreClear 0 16 v → AreClear at 64 row
clear_block at row v greatest clear i from to =
    let place : at + (i - at) ≡ i = omega arith in
    let high = greatest (i - at) (omega arith) in
    let none = clear ((i - at) % 16) (omega arith) (omega arith) in
    let there = ap (slice_index row) place in
    omega arith
