-- What drawing the missing tiles of a layer over a row makes of each of its pixels.
use Rattle.std.proofs.Common.{ℕ, ℤ, pos, unsigned_abs, ◌≡◌, ◌+◌, ◌-◌, ◌*◌, ◌/◌, ◌<◌, ◌≤◌, ◌==◌, ◌⊎◌, inl, inr, nat_lt, ◌+ℤ◌, Bool, true, false, cond, List, [], ◌∷◌, filter, length, refl, ap, sym, ◌∙◌, arith}
use Rattle.std.specs.List.{list_any}
use Rattle.std.proofs.lemmas.Int.{ints}
use Rattle.std.proofs.lemmas.Bool.Decides.{nat_tests}
use Rattle.geom.specs.declared.rect.Point.{Point}
use Rattle.geom.specs.declared.tile.TileKey.{TileKey}
use Rattle.pixel.specs.Colours.{Parts}
use Rattle.pixel.specs.Rows.{pixel}
use Rattle.pixel.specs.Surfaces.{EachPixel, holds, within_rows}
use Rattle.page_layers.specs.Paintings.{Placed, has_place}
use Rattle.page_layers.proofs.KeyRows.{column_in_row}
use Rattle.recording_check.specs.inner.Sheets.{patched}

-- pixels of a row that get a colour
pub filled_there : (k n width : ℕ) (c : Parts) (old new : List ℕ) → k + n ≤ width
    → EachPixel width 1 (within_rows (record { x = k; y = 0; w = n; h = 1 }) 1 (λ x y below. c)) old new
    → (j : ℕ) → k ≤ j → j < k + n → pixel new j ≡ c
filled_there k n width c old new inside each j low high =
    let same : 0 * width + j ≡ j = omega arith in
    let here : holds (record { x = k; y = 0; w = n; h = 1 }) j 0 ≡ true = grind (arith, nat_tests) in
    ap (pixel new) (sym same) ∙ each j 0 (omega (arith, inside, high)) (omega arith) ∙ ap (λ (b : Bool). cond b c (pixel old (0 * width + j))) here

pub filled_elsewhere : (k n width : ℕ) (c : Parts) (old new : List ℕ)
    → EachPixel width 1 (within_rows (record { x = k; y = 0; w = n; h = 1 }) 1 (λ x y below. c)) old new
    → (j : ℕ) → j < width → (j < k) ⊎ (k + n ≤ j) → pixel new j ≡ pixel old j
filled_elsewhere k n width c old new each j lt other =
    let same : 0 * width + j ≡ j = omega arith in
    ap (pixel new) (sym same) ∙ each j 0 lt (omega arith) ∙ ap (λ (b : Bool). cond b c (pixel old (0 * width + j))) (not_here other) ∙ ap (pixel old) same
  where
    not_here : (j < k) ⊎ (k + n ≤ j) → holds (record { x = k; y = 0; w = n; h = 1 }) j 0 ≡ false
    not_here (inl less) = grind (arith, nat_tests, less)
    not_here (inr more) = grind (arith, nat_tests, more)

-- a run of points in one tile is patched where the tile's column is among the keys of its row
pub run_patched : (tile : ℕ) (l : Placed) (from : Point) (k n : ℕ) (keys : List TileKey) (x : ℤ)
    → keys ≡ filter (λ q. q.y == unsigned_abs from.y / tile) l.missing → x ≡ from.x +ℤ pos k
    → ((j : ℕ) → j < n → unsigned_abs (x +ℤ pos j) / tile ≡ unsigned_abs x / tile)
    → (j : ℕ) → k ≤ j → j < k + n → (below : Parts)
    → cond (list_any (λ q. q.x == unsigned_abs x / tile) keys) l.colour below ≡ patched tile l (record { x = from.x +ℤ pos j; y = from.y }) below
run_patched tile l from k n keys x keys-are x-is one-tile j low high below =
    let row : ℕ = unsigned_abs from.y / tile in
    let across : x +ℤ pos (j - k) ≡ from.x +ℤ pos j = ap (λ (z : ℤ). z +ℤ pos (j - k)) x-is ∙ omega (arith, ints, low) in
    let column : unsigned_abs x / tile ≡ unsigned_abs (from.x +ℤ pos j) / tile =
    sym (one-tile (j - k) (omega (arith, low, high))) ∙ ap (λ (z : ℤ). unsigned_abs z / tile) across in
    let among : list_any (λ q. q.x == unsigned_abs x / tile) keys ≡ has_place l.missing (record { x = unsigned_abs (from.x +ℤ pos j) / tile; y = row }) =
    ap (λ (ks : List TileKey). list_any (λ q. q.x == unsigned_abs x / tile) ks) keys-are
    ∙ column_in_row l.missing (unsigned_abs x / tile) row
    ∙ ap (λ (m : ℕ). has_place l.missing (record { x = m; y = row })) column in
    ap (λ (b : Bool). cond b l.colour below) among

-- no key of a row of tiles, no missing tile in it
pub none_patched : (tile : ℕ) (l : Placed) (from : Point) (keys : List TileKey)
    → keys ≡ filter (λ q. q.y == unsigned_abs from.y / tile) l.missing → length keys ≡ 0
    → (k : ℕ) (below : Parts) → below ≡ patched tile l (record { x = from.x +ℤ pos k; y = from.y }) below
none_patched tile l from [] keys-are none k below =
    let column : ℕ = unsigned_abs (from.x +ℤ pos k) / tile in
    let row : ℕ = unsigned_abs from.y / tile in
    ap (λ (b : Bool). cond b l.colour below)
    (ap (λ (ks : List TileKey). list_any (λ q. q.x == column) ks) keys-are ∙ column_in_row l.missing column row)
none_patched tile l from (q ∷ qs) keys-are none k below = absurd (omega (arith, none))

-- a run more is drawn
pub run_drawn : (f : ℕ → Parts → Parts) (k n width : ℕ) (old mid new : List ℕ) → k + n ≤ width
    → ((j : ℕ) → k ≤ j → j < k + n → pixel new j ≡ f j (pixel mid j))
    → ((j : ℕ) → j < width → (j < k) ⊎ (k + n ≤ j) → pixel new j ≡ pixel mid j)
    → ((j : ℕ) → j < k → pixel mid j ≡ f j (pixel old j)) → ((j : ℕ) → j < width → k ≤ j → pixel mid j ≡ pixel old j)
    → (j : ℕ) → j < k + n → pixel new j ≡ f j (pixel old j)
run_drawn f k n width old mid new inside here others before behind j lt = at_test (nat_lt j k) refl
  where
    at_test : (b : Bool) → nat_lt j k ≡ b → pixel new j ≡ f j (pixel old j)
    at_test true is =
        let less : j < k = grind (arith, nat_tests, is) in
        others j (omega (arith, inside, lt)) (inl less) ∙ before j less
    at_test false is =
        let more : k ≤ j = grind (arith, nat_tests, is) in
        here j more lt ∙ ap (f j) (behind j (omega (arith, inside, lt)) more)
