-- The keys of a layer stand by rising row, so those of one row stand together.
use Rattle.std.proofs.Common.{ℕ, ℤ, zero, suc, ◌≡◌, ◌≤◌, ◌==◌, ◌&&◌, ◌||◌, nat_lt, nat_le, Bool, true, false, cond, List, [], ◌∷◌, filter, length, take, drop, refl, ap, sym, ◌∙◌, subst, arith}
use Rattle.std.specs.List.{list_any}
use Rattle.std.specs.List.Sorted.{IsNonDecreasingBy, IsPartitionPoint}
use Rattle.std.proofs.lemmas.Bool.Decides.{nat_tests}
use Rattle.std.proofs.lemmas.List.Sorted.{IsNonDecreasingBy-drop}
use Rattle.geom.specs.declared.rect.Point.{Point}
use Rattle.geom.specs.declared.tile.Place.{Place}
use Rattle.geom.specs.declared.tile.TileKey.{TileKey}
use Rattle.geom.specs.Covers.{covers}
use Rattle.pixel.specs.Colours.{clear}
use Rattle.page_properties.specs.Placement.{minus}
use Rattle.page_display_list.specs.Content.{content}
use Rattle.page_layers.specs.Paintings.{Placed, has_place, colour_there, placed_colour}
use Rattle.page_layers.specs.TreePainting.{place_at}

-- of keys by rising row those of one row stand after those of smaller rows, and before those of greater ones
cut_out : (row : ℕ) (ks : List TileKey) (i j : ℕ)
    → IsPartitionPoint (λ k. nat_lt k.y row ≡ true) (λ k. nat_lt k.y row ≡ false) ks i → i ≤ length ks
    → IsPartitionPoint (λ k. nat_le k.y row ≡ true) (λ k. nat_le k.y row ≡ false) (drop i ks) j → j ≤ length (drop i ks)
    → take j (drop i ks) ≡ filter (λ k. k.y == row) ks
cut_out row [] zero zero s h t g = refl
cut_out row [] zero (suc j) s h t g = absurd (omega arith)
cut_out row [] (suc i) j s h t g = absurd (omega arith)
cut_out row (k ∷ ks) zero zero s h t g =
    let low : nat_lt k.y row ≡ false = s.1 0 k (omega arith) (omega arith) in
    let high : nat_le k.y row ≡ false = t.1 0 k (omega arith) (omega arith) in
    let other : k.y == row ≡ false = grind (arith, nat_tests, low, high) in
    rw other (cut_out row ks zero zero ((λ n d l u. absurd (omega arith)), (λ n d l u. s.1 (suc n) d (omega arith) (omega arith))) (omega arith) ((λ n d l u. absurd (omega arith)), (λ n d l u. t.1 (suc n) d (omega arith) (omega arith))) (omega arith))
cut_out row (k ∷ ks) zero (suc j) s h t g =
    let low : nat_lt k.y row ≡ false = s.1 0 k (omega arith) (omega arith) in
    let high : nat_le k.y row ≡ true = t.0 0 k (omega arith) (omega arith) in
    let same : k.y == row ≡ true = grind (arith, nat_tests, low, high) in
    rw same (ap (λ (ls : List TileKey). k ∷ ls)
    (cut_out row ks zero j ((λ n d l u. absurd (omega arith)), (λ n d l u. s.1 (suc n) d (omega arith) (omega arith))) (omega arith) ((λ n d l u. t.0 (suc n) d (omega arith) (omega arith)), (λ n d l u. t.1 (suc n) d (omega arith) (omega arith))) (omega arith)))
cut_out row (k ∷ ks) (suc i) j s h t g =
    let low : nat_lt k.y row ≡ true = s.0 0 k (omega arith) (omega arith) in
    let other : k.y == row ≡ false = grind (arith, nat_tests, low) in
    rw other (cut_out row ks i j ((λ n d l u. s.0 (suc n) d (omega arith) (omega arith)), (λ n d l u. s.1 (suc n) d (omega arith) (omega arith))) (omega arith) t g)

pub cut_twice : (row : ℕ) (ks rest own : List TileKey) (i j : ℕ) → rest ≡ drop i ks → own ≡ take j rest
    → IsPartitionPoint (λ k. nat_lt k.y row ≡ true) (λ k. nat_lt k.y row ≡ false) ks i → i ≤ length ks
    → IsPartitionPoint (λ k. nat_le k.y row ≡ true) (λ k. nat_le k.y row ≡ false) rest j → j ≤ length rest
    → own ≡ filter (λ k. k.y == row) ks
cut_twice row ks rest own i j e f s h t g =
    f ∙ ap (λ (ls : List TileKey). take j ls) e
    ∙ cut_out row ks i j s h (subst (λ (ls : List TileKey). IsPartitionPoint (λ k. nat_le k.y row ≡ true) (λ k. nat_le k.y row ≡ false) ls j) e t) (subst (λ (ls : List TileKey). j ≤ length ls) e g)

-- keys after some others stand by rising row too
pub rest_rises : (ks rest : List TileKey) (i : ℕ) → rest ≡ drop i ks → IsNonDecreasingBy (λ k. k.y) ks → IsNonDecreasingBy (λ k. k.y) rest
rest_rises ks rest i e r = subst (λ (ls : List TileKey). IsNonDecreasingBy (λ k. k.y) ls) (sym e) (IsNonDecreasingBy-drop (λ k. k.y) i ks r)

-- a place is among keys where its column is among those of its row
pub column_in_row : (ks : List TileKey) (column row : ℕ) → list_any (λ k. k.x == column) (filter (λ k. k.y == row) ks) ≡ has_place ks (record { x = column; y = row })
column_in_row [] column row = refl
column_in_row (k ∷ ks) column row = go (k.y == row) (column_in_row ks column row)
  where
    both : (a c : Bool) → (a || c) ≡ ((a && true) || c)
    both true c = refl
    both false c = refl

    neither : (a c : Bool) → c ≡ ((a && false) || c)
    neither true c = refl
    neither false c = refl

    go : (b : Bool) → list_any (λ l. l.x == column) (filter (λ l. l.y == row) ks) ≡ has_place ks (record { x = column; y = row })
        → list_any (λ l. l.x == column) (cond b (k ∷ filter (λ l. l.y == row) ks) (filter (λ l. l.y == row) ks)) ≡ (((k.x == column) && b) || has_place ks (record { x = column; y = row }))
    go true rest = ap (λ (c : Bool). (k.x == column) || c) rest ∙ both (k.x == column) (has_place ks (record { x = column; y = row }))
    go false rest = rest ∙ neither (k.x == column) (has_place ks (record { x = column; y = row }))

-- a layer shows the same where keys of the same places are missing
pub same_places : (tile : ℕ) (l : Placed) (ks : List TileKey) → ((place : Place) → has_place l.missing place ≡ has_place ks place)
    → (x y : ℤ) → placed_colour tile x y l ≡ placed_colour tile x y (record { area = l.area; by = l.by; colour = l.colour; items = l.items; missing = ks })
unfolding placed_colour colour_there
same_places tile l ks same x y =
    let q : Point = minus (record { x = x; y = y }) l.by in
    ap (λ (b : Bool). cond (covers l.area x y) (cond b l.colour (content l.items q.x q.y)) clear) (same (place_at tile q))
