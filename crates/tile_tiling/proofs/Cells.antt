-- Cells of a grid that is kept row by row, and what writes of one stamp change.
use Rattle.std.proofs.Common.{◌≡◌, ℕ, ◌<◌, ◌≤◌, ◌+◌, ◌*◌, nat_eq, nat_le, nat_lt, Bool, true, false, cond, ◌&&◌, ◌||◌, List, [], ◌∷◌, length, take, get_or, refl, sym, ◌∙◌, ap, subst, arith}
use Rattle.std.specs.Prelude.{replicate}
use Rattle.std.proofs.Math.Nat.{mul-le-mul_left}
use Rattle.std.proofs.lemmas.Bool.Decides.{nat_tests}
use Rattle.std.proofs.lemmas.List.{take_more, get_or-replicate}
use Rattle.std.proofs.lemmas.List.Folds.{list_any-append}
use Rattle.geom.specs.declared.rect.Rect.{Rect}
use Rattle.geom.specs.declared.tile.Place.{Place}
use Rattle.geom.specs.declared.cut.IndexRange.{IndexRange}
use Rattle.geom.specs.Common.{meets, empty_rect}
use Rattle.geom.specs.Sides.{Sides}
use Rattle.geom.specs.Grids.{has, tiles, rect_of_place}
use Rattle.geom.specs.IndexRanges.{IsMeeting}
use Rattle.geom.proofs.Spans.{same_test, both}
use Rattle.geom.proofs.Meets.{meet_points, points_meet}
use Rattle.region.specs.Points.{touched}
use Rattle.tile_tiling.specs.Tiles.{index_of}
use Rattle.tile_tiling.specs.inner.Writes.{in_run, WritesRow, WritesCells, WritesPlaces}

-- a row that is above another lies after it
pub row_behind : (w y r : ℕ) → y < r → y * w + w ≤ r * w
row_behind w y r h = let k : w * (y + 1) ≤ w * r = mul-le-mul_left w (omega arith) in grind arith

-- a row of the grid lies within its stamps
pub row_inside : (g : Sides) (y wide n : ℕ) → y < tiles g.h g.tile → wide ≡ tiles g.w g.tile → n ≡ tiles g.w g.tile * tiles g.h g.tile → y * wide + wide ≤ n
row_inside g y wide n lt e f =
    let k : y * wide + wide ≤ tiles g.h g.tile * wide = row_behind wide y (tiles g.h g.tile) lt in
    let m : n ≡ wide * tiles g.h g.tile = f ∙ ap (λ w. w * tiles g.h g.tile) (sym e) in
    grind arith

-- a cell is within a part of a row where it is in that row and in those columns
cell_same : (w x y a b : ℕ) → (nat_le (y * w + a) (y * w + x) && nat_lt (y * w + x) (y * w + b)) ≡ (nat_le a x && nat_lt x b)
cell_same w x y a b = grind (arith, nat_tests)

cell_by : (w x y a b r : ℕ) → x < w → b ≤ w → (s t : Bool) → nat_lt y r ≡ s → nat_lt r y ≡ t
    → (nat_le (r * w + a) (y * w + x) && nat_lt (y * w + x) (r * w + b)) ≡ (nat_eq y r && (nat_le a x && nat_lt x b))
cell_by w x y a b r lx lb true t e f =
    let h : y < r = grind (arith, nat_tests) in
    let k : y * w + w ≤ r * w = row_behind w y r h in
    let i : nat_le (r * w + a) (y * w + x) ≡ false = grind (arith, nat_tests) in
    let j : nat_eq y r ≡ false = grind (arith, nat_tests) in
    rw (i, j) refl
cell_by w x y a b r lx lb false true e f =
    let h : r < y = grind (arith, nat_tests) in
    let k : r * w + w ≤ y * w = row_behind w r y h in
    let i : nat_lt (y * w + x) (r * w + b) ≡ false = grind (arith, nat_tests) in
    let j : nat_eq y r ≡ false = grind (arith, nat_tests) in
    rw (i, j) (and_false (nat_le (r * w + a) (y * w + x)))
  where
    and_false : (c : Bool) → (c && false) ≡ false
    and_false true = refl
    and_false false = refl
cell_by w x y a b r lx lb false false e f =
    let h : y ≡ r = grind (arith, nat_tests) in
    let j : nat_eq y r ≡ true = grind (arith, nat_tests) in
    rw j (subst (λ z. (nat_le (z * w + a) (y * w + x) && nat_lt (y * w + x) (z * w + b)) ≡ (nat_le a x && nat_lt x b)) h (cell_same w x y a b))

pub cell : (w x y a b r : ℕ) → x < w → b ≤ w
    → (nat_le (r * w + a) (y * w + x) && nat_lt (y * w + x) (r * w + b)) ≡ (nat_eq y r && (nat_le a x && nat_lt x b))
cell w x y a b r lx lb = cell_by w x y a b r lx lb (nat_lt y r) (nat_lt r y) refl refl

-- one write more

one_more : (from i k s o : ℕ) → from ≤ i → cond (nat_eq k i) s (cond (nat_le from k && nat_lt k i) s o) ≡ cond (nat_le from k && nat_lt k (i + 1)) s o
one_more from i k s o le = one_more_by (nat_eq k i) refl
  where
    one_more_by : (t : Bool) → nat_eq k i ≡ t → cond t s (cond (nat_le from k && nat_lt k i) s o) ≡ cond (nat_le from k && nat_lt k (i + 1)) s o
    one_more_by true e = let f : (nat_le from k && nat_lt k (i + 1)) ≡ true = grind (arith, nat_tests) in rw f refl
    one_more_by false e = let f : nat_lt k i ≡ nat_lt k (i + 1) = grind (arith, nat_tests) in rw f refl

-- rows of a block

pub cells_none : (wide : ℕ) (xs : List ℕ) (columns : IndexRange) (first stamp : ℕ) → WritesCells wide xs xs (λ x y. in_run columns x && (nat_le first y && nat_lt y first)) stamp
cells_none wide xs columns first stamp = record { long = refl; each = λ x y lt. none x y }
  where
    none : (x y : ℕ) → get_or xs (y * wide + x) 0 ≡ cond (in_run columns x && (nat_le first y && nat_lt y first)) stamp (get_or xs (y * wide + x) 0)
    none x y = none_by (in_run columns x)
      where
        none_by : (c : Bool) → get_or xs (y * wide + x) 0 ≡ cond (c && (nat_le first y && nat_lt y first)) stamp (get_or xs (y * wide + x) 0)
        none_by false = refl
        none_by true = let e : (nat_le first y && nat_lt y first) ≡ false = grind (arith, nat_tests) in rw e refl

one_row : (c : Bool) (first r y s o : ℕ) → first ≤ r → cond (nat_eq y r && c) s (cond (c && (nat_le first y && nat_lt y r)) s o) ≡ cond (c && (nat_le first y && nat_lt y (r + 1))) s o
one_row false first r y s o le = no_column (nat_eq y r)
  where
    no_column : (t : Bool) → cond (t && false) s o ≡ o
    no_column true = refl
    no_column false = refl
one_row true first r y s o le = and_true (nat_eq y r) (cond (nat_le first y && nat_lt y r) s o) ∙ one_more first r y s o le
  where
    and_true : (t : Bool) (z : ℕ) → cond (t && true) s z ≡ cond t s z
    and_true true z = refl
    and_true false z = refl

pub cells_more : (wide : ℕ) (old now new : List ℕ) (columns : IndexRange) (first r stamp : ℕ) → first ≤ r → columns.end ≤ wide
    → WritesCells wide old now (λ x y. in_run columns x && (nat_le first y && nat_lt y r)) stamp
    → WritesRow now new (r * wide + columns.first) (r * wide + columns.end) stamp
    → WritesCells wide old new (λ x y. in_run columns x && (nat_le first y && nat_lt y (r + 1))) stamp
cells_more wide old now new columns first r stamp le lb w v = record {
  long = v.long ∙ w.long;
  each = λ x y lt.
      v.each (y * wide + x)
      ∙ (ap (λ b. cond b stamp (get_or now (y * wide + x) 0)) (cell wide x y columns.first columns.end r lt lb)
      ∙ (ap (λ o. cond (nat_eq y r && in_run columns x) stamp o) (w.each x y lt)
      ∙ one_row (in_run columns x) first r y stamp (get_or old (y * wide + x) 0) le));
}

-- from cells to places

column_of : (g : Sides) (p : Place) → has g p ≡ true → p.x < tiles g.w g.tile
column_of g p h = let k = both (nat_lt p.x (tiles g.w g.tile)) (nat_lt p.y (tiles g.h g.tile)) h in let e = k.0 in grind (arith, nat_tests)

pub places_of_cells : (g : Sides) (old new : List ℕ) (test : ℕ → ℕ → Bool) (of : Place → Bool) (stamp : ℕ)
    → ((p : Place) → has g p ≡ true → of p ≡ test p.x p.y)
    → WritesCells (tiles g.w g.tile) old new test stamp → WritesPlaces g old new of stamp
places_of_cells g old new test of stamp same w = record {
  long = w.long;
  each = λ p h. w.each p.x p.y (column_of g p h) ∙ ap (λ b. cond b stamp (get_or old (index_of g p) 0)) (sym (same p h));
}

-- the places that meet an area are those of its columns and rows
pub meets_runs : (g : Sides) (area : Rect) (columns rows : IndexRange) → IsMeeting g.w g.tile area.x area.w columns → IsMeeting g.h g.tile area.y area.h rows
    → (p : Place) → meets (rect_of_place g p) area ≡ (in_run columns p.x && in_run rows p.y)
meets_runs g area columns rows a d p = λ i. a.meeting p.x i && d.meeting p.y i

-- rows of the grid end within its stamps
pub rows_fit : (g : Sides) (end wide n : ℕ) → end ≤ tiles g.h g.tile → wide ≡ tiles g.w g.tile → n ≡ tiles g.w g.tile * tiles g.h g.tile → end * wide ≤ n
rows_fit g end wide n le e f =
    let k : wide * end ≤ wide * tiles g.h g.tile = mul-le-mul_left wide le in
    let m : n ≡ wide * tiles g.h g.tile = f ∙ ap (λ w. w * tiles g.h g.tile) (sym e) in
    grind arith

-- what a rect writes
pub rect_written : (g : Sides) (area : Rect) (columns rows : IndexRange) (wide : ℕ) (old new : List ℕ) (stamp : ℕ) → wide ≡ tiles g.w g.tile
    → IsMeeting g.w g.tile area.x area.w columns → IsMeeting g.h g.tile area.y area.h rows
    → WritesCells wide old new (λ x y. in_run columns x && in_run rows y) stamp → WritesPlaces g old new (λ p. meets (rect_of_place g p) area) stamp
rect_written g area columns rows wide old new stamp e a d w =
    places_of_cells g old new (λ x y. in_run columns x && in_run rows y) (λ p. meets (rect_of_place g p) area) stamp
    (λ p h. meets_runs g area columns rows a d p)
    (subst (λ n. WritesCells n old new (λ x y. in_run columns x && in_run rows y) stamp) e w)

-- one rect more

meets_turned : (r s : Rect) → meets r s ≡ meets s r
meets_turned r s =
    same_test (meets r s) (meets s r)
    (λ h. let (x, y, p, q) = meet_points r s h in points_meet s r (x, y, q, p))
    (λ h. let (x, y, p, q) = meet_points s r h in points_meet r s (x, y, q, p))

either : (a b : Bool) (s o : ℕ) → cond b s (cond a s o) ≡ cond (a || b) s o
either true true s o = refl
either true false s o = refl
either false true s o = refl
either false false s o = refl

pub touched_more : (rs : List Rect) (i : ℕ) (q : Rect) → i < length rs → touched (take (i + 1) rs) q ≡ (touched (take i rs) q || meets q (get_or rs i empty_rect))
touched_more rs i q lt =
    ap (λ ws. touched ws q) (take_more rs i empty_rect lt)
    ∙ (list_any-append (λ s. meets s q) (take i rs) (get_or rs i empty_rect ∷ [])
    ∙ ap (λ b. touched (take i rs) q || b) (or_false (meets (get_or rs i empty_rect) q) ∙ meets_turned (get_or rs i empty_rect) q))
  where
    or_false : (b : Bool) → (b || false) ≡ b
    or_false true = refl
    or_false false = refl

pub rects_more : (g : Sides) (old now new : List ℕ) (rs : List Rect) (i stamp : ℕ) → i < length rs
    → WritesPlaces g old now (λ p. touched (take i rs) (rect_of_place g p)) stamp
    → WritesPlaces g now new (λ p. meets (rect_of_place g p) (get_or rs i empty_rect)) stamp
    → WritesPlaces g old new (λ p. touched (take (i + 1) rs) (rect_of_place g p)) stamp
rects_more g old now new rs i stamp lt w v = record {
  long = v.long ∙ w.long;
  each = λ p h.
      v.each p h
      ∙ (ap (λ o. cond (meets (rect_of_place g p) (get_or rs i empty_rect)) stamp o) (w.each p h)
      ∙ (either (touched (take i rs) (rect_of_place g p)) (meets (rect_of_place g p) (get_or rs i empty_rect)) stamp (get_or old (index_of g p) 0)
      ∙ ap (λ b. cond b stamp (get_or old (index_of g p) 0)) (sym (touched_more rs i (rect_of_place g p) lt))));
}

-- one stamp for all
index_below : (g : Sides) (p : Place) → has g p ≡ true → index_of g p < tiles g.w g.tile * tiles g.h g.tile
index_below g p h =
    let k = both (nat_lt p.x (tiles g.w g.tile)) (nat_lt p.y (tiles g.h g.tile)) h in
    let e = k.0 in
    let f = k.1 in
    let x : p.x < tiles g.w g.tile = grind (arith, nat_tests) in
    let y : p.y < tiles g.h g.tile = grind (arith, nat_tests) in
    below (tiles g.w g.tile) (tiles g.h g.tile) p.x p.y x y
  where
    below : (w h x y : ℕ) → x < w → y < h → y * w + x < w * h
    below w h x y lx ly = let b : y * w + w ≤ h * w = row_behind w y h ly in grind arith

pub uniform : (g : Sides) (stamp : ℕ) (p : Place) → has g p ≡ true → get_or (replicate (tiles g.w g.tile * tiles g.h g.tile) stamp) (index_of g p) 0 ≡ stamp
uniform g stamp p h = get_or-replicate (tiles g.w g.tile * tiles g.h g.tile) (index_of g p) stamp 0 (index_below g p h)
