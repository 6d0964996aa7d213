-- How a side is cut into tiles.
use Rattle.std.proofs.Common.{◌≡◌, ℕ, ◌+◌, ◌-◌, ◌*◌, ◌/◌, ◌%◌, ◌<◌, ◌≤◌, min, ℤ, pos, negsuc, true, nat_lt, nat_abs, arith, refl, sym, ◌∙◌, inl, inr, ◌⊎◌, add-one}
use Rattle.std.proofs.Math.Nat.{suc-mul, mul-one}
use Rattle.std.proofs.lemmas.Int.{ints}
use Rattle.std.proofs.lemmas.Bool.Decides.{nat_tests}
use Rattle.std.proofs.lemmas.Nat.{mul-le, div-add-mod'}
use Rattle.std.proofs.lemmas.Bool.{cases_lt, cases_order}
use Rattle.geom.specs.declared.tile.Place.{Place}
use Rattle.geom.specs.Covers.{within, covers}
use Rattle.geom.specs.Sides.{Sides, IsLayerSide, IsGrid}
use Rattle.geom.specs.Grids.{tiles, part_at, part_len, bounds, IsPlaceOf, PartTheLayer}
use Rattle.geom.proofs.Spans.{inside, is_within_of, both, both_of}

one_more : (k tile : ℕ) → (k + 1) * tile ≡ k * tile + tile
one_more k tile = rw add-one (suc-mul k tile)

-- what a quotient is
pub quotient_facts : (n tile : ℕ) → 1 ≤ tile → (n / tile * tile ≤ n) × (n < n / tile * tile + tile)
quotient_facts n tile t = (omega (arith, div-add-mod' n tile), omega (arith, div-add-mod' n tile))

-- the multiples of a lower number end before those of a higher
below_multiple : (j k tile : ℕ) → j < k → j * tile + tile ≤ k * tile
below_multiple j k tile h =
    let e : (j + 1) * tile ≤ k * tile = mul-le (j + 1) tile k tile (omega arith) (omega arith) in omega (arith, one_more j tile)

-- the only quotient that fits
quotient_by : (tile k n q : ℕ) → (k ≡ q) ⊎ ((k < q) ⊎ (q < k)) → k * tile ≤ n → n < k * tile + tile → q * tile ≤ n → n < q * tile + tile → q ≡ k
quotient_by tile k n q (inl same) a b c d = sym same
quotient_by tile k n q (inr (inl less)) a b c d = absurd (omega (arith, below_multiple k q tile less))
quotient_by tile k n q (inr (inr more)) a b c d = absurd (omega (arith, below_multiple q k tile more))

pub quotient_is : (tile k n : ℕ) → 1 ≤ tile → k * tile ≤ n → n < k * tile + tile → n / tile ≡ k
quotient_is tile k n t low high =
    let f = quotient_facts n tile t in quotient_by tile k n (n / tile) (cases_order k (n / tile)) low high f.0 f.1

-- a side takes as many tiles as start before its end
tiles_by : (side tile k q r : ℕ) → q * tile + r ≡ side → r < tile → (k ≡ q) ⊎ ((k < q) ⊎ (q < k)) → nat_lt k (q + min 1 r) ≡ nat_lt (k * tile) side
tiles_by side tile k q r e l (inl same) = rw same (grind (arith, nat_tests))
tiles_by side tile k q r e l (inr (inl less)) = let f = below_multiple k q tile less in grind (arith, nat_tests)
tiles_by side tile k q r e l (inr (inr more)) = let f = below_multiple q k tile more in grind (arith, nat_tests)

pub tiles_is : (side tile k : ℕ) → 1 ≤ tile → nat_lt k (tiles side tile) ≡ nat_lt (k * tile) side
unfolding tiles
tiles_is side tile k t = tiles_by side tile k (side / tile) (side % tile) (div-add-mod' side tile) (omega arith) (cases_order k (side / tile))

ordered_by : (m n tile q r : ℕ) → m ≤ n → q * tile ≤ m → n < r * tile + tile → (r < q) ⊎ (q ≤ r) → q ≤ r
ordered_by m n tile q r h a b (inl less) = absurd (omega (arith, below_multiple r q tile less))
ordered_by m n tile q r h a b (inr more) = more

-- a tile of a side starts before the side's end
pub starts_below : (side tile k : ℕ) → IsLayerSide tile → k < tiles side tile → k * tile < side
starts_below side tile k t h = let e = tiles_is side tile k t.low in grind (arith, nat_tests)

few_by : (q r side tile : ℕ) → q * tile + r ≡ side → 1 ≤ tile → q + min 1 r ≤ side
few_by q r side tile e t =
    let one : q * 1 ≤ q * tile = mul-le q 1 q tile (omega arith) t in omega (arith, mul-one q)

-- no side takes more than 16384 tiles
pub tiles_few : (side tile : ℕ) → IsLayerSide side → IsLayerSide tile → tiles side tile ≤ 16384
unfolding tiles
tiles_few side tile s t = let h = few_by (side / tile) (side % tile) side tile (div-add-mod' side tile) t.low in omega (arith, s.high)

-- quotients keep the order
pub quotients_ordered : (m n tile : ℕ) → 1 ≤ tile → m ≤ n → m / tile ≤ n / tile
quotients_ordered m n tile t h =
    let f = quotient_facts m tile t in
    let g = quotient_facts n tile t in
    ordered_by m n tile (m / tile) (n / tile) h f.0 g.1 (cases_lt (n / tile) (m / tile))

-- the numbers of a span of naturals are naturals
pub natural : (a m : ℕ) (p : ℤ) → within (pos a) (pos m) p ≡ true → (n : ℕ) × (p ≡ pos n) × (a ≤ n) × (n < a + m)
natural a m (pos n) h = let i = inside _ _ _ h in (n, refl, omega (arith, ints), omega (arith, ints))
natural a m (negsuc n) h = let i = inside _ _ _ h in absurd (omega (arith, ints))

pub within_natural : (a m n : ℕ) → a ≤ n → n < a + m → within (pos a) (pos m) (pos n) ≡ true
within_natural a m n h k = is_within_of _ _ _ (record { low = omega (arith, ints); high = omega (arith, ints) })

-- a number of the side from the tile's start on, and before the next tile's, is in the tile's part
pub in_part : (side tile k n : ℕ) → k * tile ≤ n → n < k * tile + tile → n < side
    → within (part_at tile k) (part_len side tile k) (pos n) ≡ true
unfolding part_len
in_part side tile k n low high below = within_natural (k * tile) (min tile (side - k * tile)) n low (omega arith)

-- the numbers of a tile's part are those of the side with that quotient
pub part_number : (side tile k : ℕ) (p : ℤ) → within (part_at tile k) (part_len side tile k) p ≡ true
    → (n : ℕ) × (p ≡ pos n) × (n < side) × (k * tile ≤ n) × (n < k * tile + tile)
unfolding part_len
part_number side tile k p h =
    let f = natural (k * tile) (min tile (side - k * tile)) p h in
    (f.0, f.1, omega (arith, f.2, f.3), f.2, omega (arith, f.2, f.3))

-- a number of the side is in the part of its quotient
pub in_quotient : (side tile n : ℕ) → 1 ≤ tile → n < side
    → within (part_at tile (n / tile)) (part_len side tile (n / tile)) (pos n) ≡ true
in_quotient side tile n t h = let f = quotient_facts n tile t in in_part side tile (n / tile) n f.0 f.1 h

pub quotient_below : (side tile n : ℕ) → 1 ≤ tile → n < side → nat_lt (n / tile) (tiles side tile) ≡ true
quotient_below side tile n t h =
    let f = quotient_facts n tile t in tiles_is side tile (n / tile) t ∙ grind (arith, nat_tests)

pub part_quotient : (side tile k n : ℕ) → 1 ≤ tile → within (part_at tile k) (part_len side tile k) (pos n) ≡ true → k ≡ n / tile
part_quotient side tile k n t h =
    let f = part_number side tile k (pos n) h in
    let e : n ≡ f.0 = cc in
    sym (quotient_is tile k n t (omega (arith, f.3)) (omega (arith, f.4)))

same_place : (q : Place) (x y : ℕ) → q.x ≡ x → q.y ≡ y → q ≡ record { x = x; y = y }
same_place q x y e f = rw (← e, ← f) refl

-- the place of a point of the layer
pub is_place : (g : Sides) → IsGrid g → (m n : ℕ) → m < g.w → n < g.h → IsPlaceOf g (pos m) (pos n) (record { x = m / g.tile; y = n / g.tile })
is_place g i m n h k =
    let t = i.cut.low in
    record {
      is_there = both_of _ _ (quotient_below g.w g.tile m t h) (quotient_below g.h g.tile n t k);
      covers_it = both_of _ _ (in_quotient g.w g.tile m t h) (in_quotient g.h g.tile n t k);
      alone = λ q there it.
          let b = both _ _ it in
          let e = part_quotient g.w g.tile q.x m t b.0 in
          let f = part_quotient g.h g.tile q.y n t b.1 in
          same_place q (m / g.tile) (n / g.tile) e f;
    }

is_place_by : (g : Sides) → IsGrid g → (x y : ℤ) (m n : ℕ) → x ≡ pos m → y ≡ pos n → m < g.w → n < g.h
    → IsPlaceOf g x y (record { x = nat_abs x / g.tile; y = nat_abs y / g.tile })
is_place_by g i x y m n e f h k = rw (e, f) (is_place g i m n h k)

-- the place of a point of the layer, from its coordinates
pub is_place_at : (g : Sides) → IsGrid g → (x y : ℤ) → covers (bounds g) x y ≡ true
    → IsPlaceOf g x y (record { x = nat_abs x / g.tile; y = nat_abs y / g.tile })
is_place_at g i x y h =
    let b = both _ _ h in
    let m = natural 0 g.w x b.0 in
    let n = natural 0 g.h y b.1 in
    is_place_by g i x y m.0 n.0 m.1 n.1 (omega (arith, m.3)) (omega (arith, n.3))

pub in_bounds_by : (g : Sides) (x y : ℤ) (m n : ℕ) → x ≡ pos m → y ≡ pos n → m < g.w → n < g.h → covers (bounds g) x y ≡ true
in_bounds_by g x y m n e f h k = rw (e, f) (both_of _ _ (within_natural 0 g.w m (omega arith) (omega arith)) (within_natural 0 g.h n (omega arith) (omega arith)))

-- the places of a grid part its layer
pub part_the_layer : PartTheLayer
part_the_layer = record {
  each_once = λ g i x y h. (record { x = nat_abs x / g.tile; y = nat_abs y / g.tile }, is_place_at g i x y h);
  no_more = λ g i p x y there it.
      let b = both _ _ it in
      let m = part_number g.w g.tile p.x x b.0 in
      let n = part_number g.h g.tile p.y y b.1 in
      in_bounds_by g x y m.0 n.0 m.1 n.1 m.2 n.2;
}
