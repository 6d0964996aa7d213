-- What a call on a run of a surface's pixels did to the surface.
use Rattle.std.specs.Prelude.{ℕ, ◌+◌, ◌*◌, ◌-◌, ◌/◌, ◌%◌, ◌<◌, ◌≤◌, ◌≡◌, List, length, slice_index, take, drop}
use Rattle.std.proofs.Common.{arith, ◌∙◌, ap, sym, subst, inl, inr}
use Rattle.std.proofs.lemmas.Bool.{cases_lt}
use Rattle.std.proofs.lemmas.List.{length-take, length-drop}
use Rattle.std.proofs.lemmas.Int.{clamps}
use Rattle.std.proofs.lemmas.Grind.{common_steps}
use borrow.Rule.Slice.PartMut.{put_mid}
use Rattle.pixel.specs.Colours.{Parts, above, blend}
use Rattle.pixel.specs.Rows.{pixel, ArePremultiplied, IsLaid, alpha_place}
use Rattle.pixel.specs.Surfaces.{IsPart}
use Rattle.pixel.proofs.Fills.{same_parts}

byte_before : (a k : ℕ) (xs ys : List ℕ) (i : ℕ) → i < a → a ≤ length xs → slice_index (put_mid a k xs ys) i ≡ slice_index xs i
byte_before a k xs ys i lt le = grind (arith, common_steps)

byte_inside : (a k : ℕ) (xs ys : List ℕ) (j : ℕ) → j < length ys → a ≤ length xs → slice_index (put_mid a k xs ys) (a + j) ≡ slice_index ys j
byte_inside a k xs ys j lt le = grind (arith, common_steps)

byte_behind : (a k : ℕ) (xs ys : List ℕ) (i : ℕ) → a + k ≤ i → length ys ≡ k → a + k ≤ length xs → slice_index (put_mid a k xs ys) i ≡ slice_index xs i
byte_behind a k xs ys i le len fit = grind (arith, common_steps)

length_replaced : (a k : ℕ) (xs ys : List ℕ) → length ys ≡ k → a + k ≤ length xs → length (put_mid a k xs ys) ≡ length xs
length_replaced a k xs ys len fit = grind (arith, common_steps)

byte_taken : (a k : ℕ) (xs : List ℕ) (j : ℕ) → j < k → slice_index (take k (drop a xs)) j ≡ slice_index xs (a + j)
byte_taken a k xs j lt = grind (arith, common_steps)

-- pixel `j` of what a run was replaced by
pixel_inside : (k n : ℕ) (xs ys : List ℕ) (j : ℕ) → j < n → length ys ≡ 4 * n → 4 * k ≤ length xs
    → pixel (put_mid (4 * k) (4 * (k + n) - 4 * k) xs ys) (k + j) ≡ pixel ys j
pixel_inside k n xs ys j lt len le =
    let m = 4 * (k + n) - 4 * k in
    let zs = put_mid (4 * k) m xs ys in
    let e0 : 4 * (k + j) ≡ 4 * k + 4 * j = omega arith in
    let e1 : 4 * (k + j) + 1 ≡ 4 * k + (4 * j + 1) = omega arith in
    let e2 : 4 * (k + j) + 2 ≡ 4 * k + (4 * j + 2) = omega arith in
    let e3 : 4 * (k + j) + 3 ≡ 4 * k + (4 * j + 3) = omega arith in
    same_parts (pixel zs (k + j)) (pixel ys j)
    (ap (slice_index zs) e0 ∙ byte_inside (4 * k) m xs ys (4 * j) (omega arith) le)
    (ap (slice_index zs) e1 ∙ byte_inside (4 * k) m xs ys (4 * j + 1) (omega arith) le)
    (ap (slice_index zs) e2 ∙ byte_inside (4 * k) m xs ys (4 * j + 2) (omega arith) le)
    (ap (slice_index zs) e3 ∙ byte_inside (4 * k) m xs ys (4 * j + 3) (omega arith) le)

-- pixel `j` of a run
pub pixel_taken : (k n m : ℕ) (xs : List ℕ) (j : ℕ) → j < n → m ≡ 4 * n → pixel (take m (drop (4 * k) xs)) j ≡ pixel xs (k + j)
pixel_taken k n m xs j lt len =
    let e0 : 4 * k + 4 * j ≡ 4 * (k + j) = omega arith in
    let e1 : 4 * k + (4 * j + 1) ≡ 4 * (k + j) + 1 = omega arith in
    let e2 : 4 * k + (4 * j + 2) ≡ 4 * (k + j) + 2 = omega arith in
    let e3 : 4 * k + (4 * j + 3) ≡ 4 * (k + j) + 3 = omega arith in
    same_parts (pixel (take m (drop (4 * k) xs)) j) (pixel xs (k + j))
    (byte_taken (4 * k) m xs (4 * j) (omega arith) ∙ ap (slice_index xs) e0)
    (byte_taken (4 * k) m xs (4 * j + 1) (omega arith) ∙ ap (slice_index xs) e1)
    (byte_taken (4 * k) m xs (4 * j + 2) (omega arith) ∙ ap (slice_index xs) e2)
    (byte_taken (4 * k) m xs (4 * j + 3) (omega arith) ∙ ap (slice_index xs) e3)

-- how long a run is
pub run_length : (k n : ℕ) (xs : List ℕ) → 4 * (k + n) ≤ length xs → length (take (4 * (k + n) - 4 * k) (drop (4 * k) xs)) ≡ 4 * n
run_length k n xs fit = simp (length-take, length-drop) (omega (arith, clamps))

-- a run of a premultiplied surface is premultiplied
pub run_premultiplied : (k n m : ℕ) (xs : List ℕ) → m ≡ 4 * n → 4 * (k + n) ≤ length xs → ArePremultiplied xs
    → ArePremultiplied (take m (drop (4 * k) xs))
run_premultiplied k n m xs len fit all i lt =
    let short : i < m = omega (arith, length-take m (drop (4 * k) xs)) in
    let here = byte_taken (4 * k) m xs i short in
    let there = byte_taken (4 * k) m xs (alpha_place i) (omega arith) in
    let place : alpha_place (4 * k + i) ≡ 4 * k + alpha_place i = omega arith in
    let low = all (4 * k + i) (omega arith) in
    let alpha = ap (slice_index xs) place in
    omega arith

-- a surface stays premultiplied where a run is replaced by a premultiplied one
replaced_premultiplied : (k n : ℕ) (xs ys : List ℕ) → length ys ≡ 4 * n → 4 * (k + n) ≤ length xs
    → ArePremultiplied xs → ArePremultiplied ys → ArePremultiplied (put_mid (4 * k) (4 * (k + n) - 4 * k) xs ys)
replaced_premultiplied k n xs ys len fit all new i lt =
    let m = 4 * (k + n) - 4 * k in
    let zs = put_mid (4 * k) m xs ys in
    let same = length_replaced (4 * k) m xs ys (omega arith) (omega arith) in
    let short : i < length xs = omega arith in
    elim (cases_lt i (4 * k)) as (λ _. slice_index zs i ≤ slice_index zs (alpha_place i)) [
      | inl low ↦
          let here = byte_before (4 * k) m xs ys i low (omega arith) in
          let there = byte_before (4 * k) m xs ys (alpha_place i) (omega arith) (omega arith) in
          let old = all i short in
          omega arith
      | inr from ↦ elim (cases_lt i (4 * k + 4 * n)) as (λ _. slice_index zs i ≤ slice_index zs (alpha_place i)) [
        | inl to ↦
            let j = i - 4 * k in
            let e : 4 * k + j ≡ i = omega arith in
            let f : 4 * k + alpha_place j ≡ alpha_place i = omega arith in
            let here = sym (ap (slice_index zs) e) ∙ byte_inside (4 * k) m xs ys j (omega arith) (omega arith) in
            let there = sym (ap (slice_index zs) f) ∙ byte_inside (4 * k) m xs ys (alpha_place j) (omega arith) (omega arith) in
            let inner = new j (omega arith) in
            omega arith
        | inr high ↦
            let here = byte_behind (4 * k) m xs ys i (omega arith) (omega arith) (omega arith) in
            let there = byte_behind (4 * k) m xs ys (alpha_place i) (omega arith) (omega arith) (omega arith) in
            let old = all i short in
            omega arith
      ]
    ]

-- a run of a surface was replaced by one whose pixels are `g` of those before
pub part_made : (k n : ℕ) (g : ℕ → Parts → Parts) (xs ys : List ℕ) → length ys ≡ 4 * n → 4 * (k + n) ≤ length xs
    → ((j : ℕ) → j < n → pixel ys j ≡ g j (pixel (take (4 * (k + n) - 4 * k) (drop (4 * k) xs)) j))
    → (ArePremultiplied (take (4 * (k + n) - 4 * k) (drop (4 * k) xs)) → ArePremultiplied ys)
    → IsPart k n g xs (put_mid (4 * k) (4 * (k + n) - 4 * k) xs ys)
part_made k n g xs ys len fit each all = record {
  inside = λ j lt.
      pixel_inside k n xs ys j lt len (omega arith) ∙ each j lt ∙ ap (g j) (pixel_taken k n (4 * (k + n) - 4 * k) xs j lt (omega arith));
  before = λ i lt.
      same_parts (pixel (put_mid (4 * k) (4 * (k + n) - 4 * k) xs ys) i) (pixel xs i)
      (byte_before (4 * k) (4 * (k + n) - 4 * k) xs ys (4 * i) (omega arith) (omega arith))
      (byte_before (4 * k) (4 * (k + n) - 4 * k) xs ys (4 * i + 1) (omega arith) (omega arith))
      (byte_before (4 * k) (4 * (k + n) - 4 * k) xs ys (4 * i + 2) (omega arith) (omega arith))
      (byte_before (4 * k) (4 * (k + n) - 4 * k) xs ys (4 * i + 3) (omega arith) (omega arith));
  behind = λ i le.
      same_parts (pixel (put_mid (4 * k) (4 * (k + n) - 4 * k) xs ys) i) (pixel xs i)
      (byte_behind (4 * k) (4 * (k + n) - 4 * k) xs ys (4 * i) (omega arith) (omega arith) (omega arith))
      (byte_behind (4 * k) (4 * (k + n) - 4 * k) xs ys (4 * i + 1) (omega arith) (omega arith) (omega arith))
      (byte_behind (4 * k) (4 * (k + n) - 4 * k) xs ys (4 * i + 2) (omega arith) (omega arith) (omega arith))
      (byte_behind (4 * k) (4 * (k + n) - 4 * k) xs ys (4 * i + 3) (omega arith) (omega arith) (omega arith));
  premultiplied = λ old.
      replaced_premultiplied k n xs ys len fit old (all (run_premultiplied k n (4 * (k + n) - 4 * k) xs (omega arith) fit old));
}

-- byte `m` of pixel `j` of a row that a source was laid over
laid_byte : (n : ℕ) (old source new : List ℕ)
    → ((i : ℕ) → i < n → slice_index new i ≡ above (slice_index old i) (slice_index source i) (slice_index source (alpha_place i)))
    → (i j : ℕ) → i < n → alpha_place i ≡ 4 * j + 3
    → slice_index new i ≡ above (slice_index old i) (slice_index source i) (slice_index source (4 * j + 3))
laid_byte n old source new bytes i j lt e = bytes i lt ∙ ap (λ (a : ℕ). above (slice_index old i) (slice_index source i) (slice_index source a)) e

-- a row that a source was laid over, pixel by pixel
pub laid_pixel : (n : ℕ) (old source new : List ℕ)
    → ((i : ℕ) → i < n → slice_index new i ≡ above (slice_index old i) (slice_index source i) (slice_index source (alpha_place i)))
    → (j : ℕ) → 4 * j + 4 ≤ n → pixel new j ≡ blend (pixel old j) (pixel source j)
laid_pixel n old source new bytes j le =
    same_parts (pixel new j) (blend (pixel old j) (pixel source j))
    (laid_byte n old source new bytes (4 * j) j (omega arith) (omega arith))
    (laid_byte n old source new bytes (4 * j + 1) j (omega arith) (omega arith))
    (laid_byte n old source new bytes (4 * j + 2) j (omega arith) (omega arith))
    (laid_byte n old source new bytes (4 * j + 3) j (omega arith) (omega arith))

-- what shows of a greater part is no less
shown_grows : (x y kept : ℕ) → x ≤ y → (x * kept + 127) / 255 ≤ (y * kept + 127) / 255
shown_grows x y kept le = let grows : x * kept ≤ y * kept = grind arith in omega arith

-- a premultiplied row that a premultiplied source was laid over is premultiplied
pub laid_premultiplied : (n : ℕ) (source old new : List ℕ) → IsLaid 0 n source old new → n % 4 ≡ 0 → length source ≡ n → length old ≡ n → length new ≡ n
    → ArePremultiplied source → ArePremultiplied old → ArePremultiplied new
laid_premultiplied n source old new laid whole sized olds news above below i lt =
    let alpha : alpha_place (alpha_place i) ≡ alpha_place i = omega arith in
    let here = laid.inside i (omega arith) (omega arith) in
    let there = laid.inside (alpha_place i) (omega arith) (omega arith) in
    let kept : slice_index source (alpha_place (alpha_place i)) ≡ slice_index source (alpha_place i) = ap (slice_index source) alpha in
    let low = above i (omega arith) in
    let shows = shown_grows (slice_index old i) (slice_index old (alpha_place i)) (255 - slice_index source (alpha_place i)) (below i (omega arith)) in
    let opaque : slice_index new (alpha_place i) ≡ slice_index source (alpha_place i) + (slice_index old (alpha_place i) * (255 - slice_index source (alpha_place i)) + 127) / 255 =
    there ∙ ap (λ (a : ℕ). slice_index source (alpha_place i) + (slice_index old (alpha_place i) * (255 - a) + 127) / 255) kept in
    omega arith

-- a run that was changed by `g` was changed by all that does the same
pub part_like : (k n : ℕ) (g h : ℕ → Parts → Parts) (old new : List ℕ) → IsPart k n g old new
    → ((j : ℕ) (below : Parts) → j < n → g j below ≡ h j below) → IsPart k n h old new
part_like k n g h old new part same = record {
  inside = λ j lt. part.inside j lt ∙ same j (pixel old (k + j)) lt;
  before = part.before;
  behind = part.behind;
  premultiplied = part.premultiplied;
}

-- where the pixel of an image stands that is drawn in row `r` and column `j` of an area
pub image_place : (x y w from_x from_y r j from : ℕ) → from ≡ (from_y + r) * w + from_x
    → from + j ≡ (y + r - y + from_y) * w + (x + j - x + from_x)
image_place x y w from_x from_y r j from e =
    let row : y + r - y + from_y ≡ from_y + r = omega arith in
    let column : x + j - x + from_x ≡ from_x + j = omega arith in
    rw (row, column) (omega arith)

-- the run after it was changed too
pub part_more : (k n m : ℕ) (g h : ℕ → Parts → Parts) (old mid new : List ℕ) → IsPart k n g old mid → IsPart (k + n) m h mid new
    → ((j : ℕ) (below : Parts) → j < m → h j below ≡ g (n + j) below) → IsPart k (n + m) g old new
part_more k n m g h old mid new one two same = record {
  inside = λ j lt.
      elim (cases_lt j n) as (λ _. pixel new (k + j) ≡ g j (pixel old (k + j))) [
        | inl low ↦ two.before (k + j) (omega arith) ∙ one.inside j low
        | inr from ↦
            let here : k + n + (j - n) ≡ k + j = omega arith in
            let there : n + (j - n) ≡ j = omega arith in
            let was = one.behind (k + n + (j - n)) (omega arith) in
            let now = two.inside (j - n) (omega arith) ∙ same (j - n) (pixel mid (k + n + (j - n))) (omega arith) ∙ ap (g (n + (j - n))) was in
            subst (λ (i : ℕ). pixel new i ≡ g j (pixel old i)) here (now ∙ ap (λ (i : ℕ). g i (pixel old (k + n + (j - n)))) there)
      ];
  before = λ i lt. two.before i (omega arith) ∙ one.before i lt;
  behind = λ i le. two.behind i (omega arith) ∙ one.behind i (omega arith);
  premultiplied = λ ready. two.premultiplied (one.premultiplied ready);
}
