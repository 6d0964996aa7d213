-- The places of a grid: those that it has, each once.
use Rattle.std.proofs.Common.{◌≡◌, ◌⊎◌, inl, inr, ℕ, zero, suc, ◌+◌, ◌<◌, ◌≤◌, nat_lt, Bool, true, false, cond, List, [], ◌∷◌, ◌++◌, map, filter, All, refl, ap, subst, arith}
use Rattle.std.specs.Prelude.{IsTrue}
use Rattle.std.specs.List.{flat_map, range_with_len}
use Rattle.std.proofs.lemmas.List.Elements.{All-cons}
use Rattle.std.proofs.lemmas.Bool.Decides.{nat_tests}
use Rattle.geom.specs.declared.rect.Rect.{Rect}
use Rattle.geom.specs.declared.tile.Place.{Place}
use Rattle.geom.specs.Common.{meets}
use Rattle.geom.specs.Grids.{tiles, has, rect_of_place, place, places_in_row, places, places_touching}
use Rattle.geom.specs.Sides.{Sides}
use Rattle.tile_priority.specs.Ordered.{In}
use Rattle.tile_priority.proofs.InOrder.{in_filter, filter_in}
use Rattle.tile_priority.proofs.Members.{in_append, in_append_left, in_append_right}
use Rattle.model_history.proofs.BoolFacts.{and_left, and_right, and_both, is_below, below}

-- ---- which places there are

row_in : (y a n : ℕ) (p : Place) → In p (map (place y) (range_with_len a n)) → (p.y ≡ y) × (a ≤ p.x) × (p.x < a + n)
row_in y a zero p i = absurd i
row_in y a (suc n) p (inl e) = (ap (λ (q : Place). q.y) e, (let x : p.x ≡ a = ap (λ (q : Place). q.x) e in omega arith), (let x : p.x ≡ a = ap (λ (q : Place). q.x) e in omega arith))
row_in y a (suc n) p (inr i) = let r = row_in y (a + 1) n p i in (r.0, (let l = r.1 in omega arith), (let l = r.2 in omega arith))

not_above : (a x : ℕ) → a ≤ x → nat_lt a x ≡ false → x ≡ a
not_above a x l e = grind (arith, nat_tests)

in_row : (y a n x : ℕ) → a ≤ x → x < a + n → In (place y x) (map (place y) (range_with_len a n))
in_row y a zero x l u = absurd (omega arith)
in_row y a (suc n) x l u = by_first (nat_lt a x) refl (λ p q. in_row y (a + 1) n x p q)
  where
    by_first : (b : Bool) → nat_lt a x ≡ b → (a + 1 ≤ x → x < (a + 1) + n → In (place y x) (map (place y) (range_with_len (a + 1) n))) → In (place y x) (map (place y) (range_with_len a (suc n)))
    by_first true e f = let k = is_below a x e in inr (f (omega (arith, k)) (omega (arith, u)))
    by_first false e f = inl (ap (place y) (not_above a x l e))

rows_in : (g : Sides) (a n : ℕ) (p : Place) → In p (flat_map (places_in_row g) (range_with_len a n)) → (a ≤ p.y) × (p.y < a + n) × (p.x < tiles g.w g.tile)
rows_in g a zero p i = absurd i
rows_in g a (suc n) p i = by_row (in_append p (places_in_row g a) (flat_map (places_in_row g) (range_with_len (a + 1) n)) i) (rows_in g (a + 1) n p)
  where
    by_row : In p (places_in_row g a) ⊎ In p (flat_map (places_in_row g) (range_with_len (a + 1) n)) → (In p (flat_map (places_in_row g) (range_with_len (a + 1) n)) → (a + 1 ≤ p.y) × (p.y < a + 1 + n) × (p.x < tiles g.w g.tile)) → (a ≤ p.y) × (p.y < a + suc n) × (p.x < tiles g.w g.tile)
    by_row (inl j) f = let r = row_in a 0 (tiles g.w g.tile) p j in let e = r.0 in let u = r.2 in (omega arith, omega arith, omega arith)
    by_row (inr j) f = let r = f j in let l = r.0 in let u = r.1 in (omega arith, omega arith, r.2)

in_rows : (g : Sides) (a n : ℕ) (p : Place) → a ≤ p.y → p.y < a + n → p.x < tiles g.w g.tile → In p (flat_map (places_in_row g) (range_with_len a n))
in_rows g a zero p l u v = absurd (omega arith)
in_rows g a (suc n) p l u v = by_row (nat_lt a p.y) refl (λ x y. in_rows g (a + 1) n p x y v)
  where
    by_row : (b : Bool) → nat_lt a p.y ≡ b → (a + 1 ≤ p.y → p.y < (a + 1) + n → In p (flat_map (places_in_row g) (range_with_len (a + 1) n))) → In p (flat_map (places_in_row g) (range_with_len a (suc n)))
    by_row true e f = let k = is_below a p.y e in in_append_right p (places_in_row g a) (flat_map (places_in_row g) (range_with_len (a + 1) n)) (f (omega (arith, k)) (omega (arith, u)))
    by_row false e f =
        let same : p.y ≡ a = not_above a p.y l e in
        in_append_left p (places_in_row g a) (flat_map (places_in_row g) (range_with_len (a + 1) n)) (subst (λ (y : ℕ). In (place p.y p.x) (places_in_row g y)) same (in_row p.y 0 (tiles g.w g.tile) p.x (omega arith) (omega (arith, v))))

pub place_had : (g : Sides) (p : Place) → In p (places g) → has g p ≡ true
place_had g p i =
    let r = rows_in g 0 (tiles g.h g.tile) p i in
    let y : p.y < tiles g.h g.tile = let u = r.1 in omega arith in
    and_both (nat_lt p.x (tiles g.w g.tile)) (nat_lt p.y (tiles g.h g.tile)) (below p.x (tiles g.w g.tile) r.2) (below p.y (tiles g.h g.tile) y)

pub place_in : (g : Sides) (p : Place) → has g p ≡ true → In p (places g)
place_in g p h =
    let x = is_below p.x (tiles g.w g.tile) (and_left (nat_lt p.x (tiles g.w g.tile)) (nat_lt p.y (tiles g.h g.tile)) h) in
    let y = is_below p.y (tiles g.h g.tile) (and_right (nat_lt p.x (tiles g.w g.tile)) (nat_lt p.y (tiles g.h g.tile)) h) in
    in_rows g 0 (tiles g.h g.tile) p (omega arith) (omega (arith, y)) x

-- those that touch an area
pub touching_had : (g : Sides) (area : Rect) (p : Place) → In p (places_touching g area) → (has g p ≡ true) × (meets (rect_of_place g p) area ≡ true)
unfolding places_touching
touching_had g area p i = let f = in_filter (λ q. meets (rect_of_place g q) area) p (places g) i in (place_had g p f.0, f.1)

pub touching_in : (g : Sides) (area : Rect) (p : Place) → has g p ≡ true → meets (rect_of_place g p) area ≡ true → In p (places_touching g area)
unfolding places_touching
touching_in g area p h m = filter_in (λ q. meets (rect_of_place g q) area) p (places g) (place_in g p h) m

all_of : {X : Type 0} (P : X → Type 0) (xs : List X) → ((x : X) → In x xs → P x) → All P xs
all_of P [] f = λ n d l. absurd (omega arith)
all_of P (x ∷ xs) f = All-cons P x xs (f x (inl refl)) (all_of P xs (λ y i. f y (inr i)))

pub touching_all : (g : Sides) (area : Rect) (ps : List Place) → ps ≡ places_touching g area → All (λ (p : Place). IsTrue (has g p)) ps
touching_all g area ps e = all_of (λ (p : Place). IsTrue (has g p)) ps (λ p i. (touching_had g area p (subst (In p) e i)).0)

-- ---- each once

-- no element stands twice
abbrev pub AreApart : {X : Type 0} → List X → Type 0
AreApart [] = Unit {0}
AreApart (x ∷ xs) = (In x xs → ⊥) × AreApart xs

apart_append : {X : Type 0} (xs ys : List X) → AreApart xs → AreApart ys → ((x : X) → In x xs → In x ys → ⊥) → AreApart (xs ++ ys)
apart_append [] ys a b f = b
apart_append (x ∷ xs) ys a b f = (λ i. by_or (in_append x xs ys i), apart_append xs ys a.1 b (λ y i j. f y (inr i) j))
  where
    by_or : In x xs ⊎ In x ys → ⊥
    by_or (inl i) = a.0 i
    by_or (inr j) = f x (inl refl) j

apart_filter : {X : Type 0} (f : X → Bool) (xs : List X) → AreApart xs → AreApart (filter f xs)
apart_filter f [] a = tt
apart_filter f (x ∷ xs) a = by_test (f x) (apart_filter f xs a.1)
  where
    by_test : (b : Bool) → AreApart (filter f xs) → AreApart (cond b (x ∷ filter f xs) (filter f xs))
    by_test true r = (λ i. a.0 (in_filter f x xs i).0, r)
    by_test false r = r

row_apart : (y a n : ℕ) → AreApart (map (place y) (range_with_len a n))
row_apart y a zero = tt
row_apart y a (suc n) = (λ i. let r = row_in y (a + 1) n (place y a) i in let l = r.1 in absurd (omega arith), row_apart y (a + 1) n)

rows_apart : (g : Sides) (a n : ℕ) → AreApart (flat_map (places_in_row g) (range_with_len a n))
rows_apart g a zero = tt
rows_apart g a (suc n) =
    apart_append (places_in_row g a) (flat_map (places_in_row g) (range_with_len (a + 1) n)) (row_apart a 0 (tiles g.w g.tile)) (rows_apart g (a + 1) n)
    (λ p i j. let r = row_in a 0 (tiles g.w g.tile) p i in let e = r.0 in let k = rows_in g (a + 1) n p j in let l = k.0 in absurd (omega arith))

pub touching_apart : (g : Sides) (area : Rect) → AreApart (places_touching g area)
unfolding places_touching
touching_apart g area = apart_filter (λ p. meets (rect_of_place g p) area) (places g) (rows_apart g 0 (tiles g.h g.tile))
