-- Of a grid's places those that cover a point are one place, or none.
use Rattle.std.proofs.Common.{◌≡◌, ℕ, ◌+◌, ◌-◌, ◌/◌, ◌<◌, ◌≤◌, ℤ, pos, Bool, true, false, cond, ◌&&◌, nat_lt, nat_le, List, [], ◌∷◌, map, filter, arith, refl, ap, ◌∙◌, nat_abs}
use Rattle.std.specs.List.{range_with_len, flat_map}
use Rattle.std.proofs.lemmas.Bool.Decides.{nat_tests}
use Rattle.geom.specs.declared.tile.Place.{Place}
use Rattle.geom.specs.Covers.{within, covers}
use Rattle.geom.specs.Sides.{Sides, IsGrid}
use Rattle.geom.specs.Grids.{tiles, part_at, part_len, bounds, rect_of_place, place, places}
use Rattle.geom.specs.IndexRanges.{block}
use Rattle.geom.proofs.Blocks.{kept_block}
use Rattle.geom.proofs.Cuts.{natural, in_quotient, quotient_below, part_quotient, part_number, in_bounds_by}
use Rattle.geom.proofs.Spans.{same_test, both, both_of}

one_by : (k q : ℕ) → nat_le q k ≡ true → nat_lt k (q + 1) ≡ true → k ≡ q
one_by k q low high = let l : q ≤ k = grind (arith, nat_tests) in let h : k < q + 1 = grind (arith, nat_tests) in omega (arith, l, h)

-- a tile's part covers a number of the side exactly where the tile is that of its quotient
in_tile : (side tile n k : ℕ) → 1 ≤ tile → n < side → within (part_at tile k) (part_len side tile k) (pos n) ≡ nat_le (n / tile) k && nat_lt k (n / tile + 1)
in_tile side tile n k t below =
    same_test _ _
    (λ h. let e = part_quotient side tile k n t h in both_of (nat_le (n / tile) k) (nat_lt k (n / tile + 1)) (grind (arith, nat_tests)) (grind (arith, nat_tests)))
    (λ h. let b = both (nat_le (n / tile) k) (nat_lt k (n / tile + 1)) h in rw (one_by k (n / tile) b.0 b.1) (in_quotient side tile n t below))

-- a block of one column and one row is one place
one_place : (x y a b : ℕ) → a ≡ 1 → b ≡ 1 → flat_map (λ r. map (place r) (range_with_len x a)) (range_with_len y b) ≡ place y x ∷ []
one_place x y a b e f = rw (e, f) refl

block_of_one : (x y : ℕ) → block (record { first = x; end = x + 1 }) (record { first = y; end = y + 1 }) ≡ place y x ∷ []
unfolding block
block_of_one x y = one_place x y (x + 1 - x) (y + 1 - y) (omega arith) (omega arith)

covering_at : (g : Sides) → IsGrid g → (m n : ℕ) → m < g.w → n < g.h → filter (λ q. covers (rect_of_place g q) (pos m) (pos n)) (places g) ≡ place (n / g.tile) (m / g.tile) ∷ []
covering_at g is m n across down =
    let t = is.cut.low in
    let x : m / g.tile + 1 ≤ tiles g.w g.tile = let h = quotient_below g.w g.tile m t across in grind (arith, nat_tests) in
    let y : n / g.tile + 1 ≤ tiles g.h g.tile = let h = quotient_below g.h g.tile n t down in grind (arith, nat_tests) in
    kept_block (λ q. covers (rect_of_place g q) (pos m) (pos n)) (record { first = m / g.tile; end = m / g.tile + 1 }) (record { first = n / g.tile; end = n / g.tile + 1 }) (tiles g.w g.tile) (tiles g.h g.tile) x y
    (λ row column. rw (in_tile g.w g.tile m column t across, in_tile g.h g.tile n row t down) refl)
    ∙ block_of_one (m / g.tile) (n / g.tile)

covering_by : (g : Sides) → IsGrid g → (x y : ℤ) (m n : ℕ) → x ≡ pos m → y ≡ pos n → m < g.w → n < g.h
    → filter (λ q. covers (rect_of_place g q) x y) (places g) ≡ place (nat_abs y / g.tile) (nat_abs x / g.tile) ∷ []
covering_by g is x y m n e f across down = rw (e, f) (covering_at g is m n across down)

-- a point of the layer is covered by its place alone
pub covering : (g : Sides) → IsGrid g → (x y : ℤ) → covers (bounds g) x y ≡ true → filter (λ q. covers (rect_of_place g q) x y) (places g) ≡ place (nat_abs y / g.tile) (nat_abs x / g.tile) ∷ []
covering g is x y h =
    let b = both _ _ h in
    let m = natural 0 g.w x b.0 in
    let n = natural 0 g.h y b.1 in
    covering_by g is x y m.0 n.0 m.1 n.1 (omega (arith, m.3)) (omega (arith, n.3))

filter_none : {A : Type 0} (p : A → Bool) → ((x : A) → p x ≡ false) → (xs : List A) → filter p xs ≡ []
filter_none p none [] = refl
filter_none {A} p none (x ∷ xs) = ap (λ (b : Bool). cond b (x ∷ filter p xs) (filter p xs)) (none x) ∙ filter_none p none xs

no_test : (a b : Bool) → (a ≡ true → b ≡ true) → b ≡ false → a ≡ false
no_test false b h f = refl
no_test true b h f = absurd (let t = h refl in cc)

-- what a place covers is in the layer
in_layer : (g : Sides) (q : Place) (x y : ℤ) → covers (rect_of_place g q) x y ≡ true → covers (bounds g) x y ≡ true
in_layer g q x y it =
    let b = both _ _ it in
    let m = part_number g.w g.tile q.x x b.0 in
    let n = part_number g.h g.tile q.y y b.1 in
    in_bounds_by g x y m.0 n.0 m.1 n.1 m.2 n.2

-- another point is covered by none
pub covering_none : (g : Sides) → IsGrid g → (x y : ℤ) → covers (bounds g) x y ≡ false → filter (λ q. covers (rect_of_place g q) x y) (places g) ≡ []
covering_none g is x y h = filter_none (λ q. covers (rect_of_place g q) x y) (λ q. no_test (covers (rect_of_place g q) x y) (covers (bounds g) x y) (in_layer g q x y) h) (places g)
