-- Where a search ends: the first element that passes, and by halves the last of those that pass.
use Rattle.std.proofs.Common.{◌≡◌, ℕ, ◌+◌, ◌<◌, ◌≤◌, zero, suc, nat_le, nat_lt, Bool, true, false, cond, not, Some, None, List, [], ◌∷◌, length, filter, map, get_or, take, refl, sym, ◌∙◌, ap, arith}
use Rattle.std.specs.List.{position, position_or_len}
use Rattle.std.specs.List.Sorted.{IsPermutation, IsPartitionedBy}
use Rattle.std.proofs.lemmas.Bool.Decides.{nat_tests}
use Rattle.std.proofs.lemmas.List.{length-map}
use Rattle.std.proofs.lemmas.List.Sums.{position_or_len_is}
use Rattle.std.proofs.lemmas.List.Sorted.{IsPermutation-refl}
use Rattle.tile_priority.specs.Tiles.{Tile}
use Rattle.tile_queue.specs.declared.evictable.Evictable.{Evictable}
use Rattle.tile_queue.specs.inner.Orders.{stays}
use Rattle.tile_queue.specs.inner.Evictables.{tile_of}
use Rattle.tile_queue.proofs.Places.{passes_first}

-- a list is its own other order
pub itself : {X : Type 0} (xs : List X) → IsPermutation xs xs
itself xs = IsPermutation-refl xs

-- no more pass than there are
pub few_pass : {X : Type 0} (p : X → Bool) (xs : List X) → length (filter p xs) ≤ length xs
few_pass p [] = omega arith
few_pass p (x ∷ xs) = by_test (p x) (few_pass p xs)
  where
    by_test : (t : Bool) → length (filter p xs) ≤ length xs → length (cond t (x ∷ filter p xs) (filter p xs)) ≤ suc (length xs)
    by_test true l = omega arith
    by_test false l = omega arith

pub length_kept : (ready : List Tile) (vs : List Evictable) → map tile_of vs ≡ filter (λ t. not (stays t)) ready → length vs ≤ length ready
length_kept ready vs e =
    let a : length (map tile_of vs) ≡ length (filter (λ t. not (stays t)) ready) = ap length e in
    let b = length-map vs tile_of in
    let d = few_pass (λ t. not (stays t)) ready in
    omega arith

-- none of the first elements passes
abbrev pub NoneBelow : {X : Type 0} → (X → Bool) → List X → ℕ → Type 0
NoneBelow {X} p xs i = (k : ℕ) (d : X) → k < i → p (get_or xs k d) ≡ false

place_is : {X : Type 0} (p : X → Bool) (xs : List X) (n : ℕ) → position_or_len p xs ≡ n → (t : Bool) → nat_lt n (length xs) ≡ t → position p xs ≡ cond t (Some n) None
place_is p xs n e t h = rw (e, h) refl

pub found_first : {X : Type 0} (p : X → Bool) (xs : List X) (i : ℕ) (x : X) → NoneBelow p xs i → i < length xs → x ≡ get_or xs i x → p x ≡ true → Some i ≡ position p xs
found_first p xs i x n l e t =
    let a : position_or_len p xs ≡ i = position_or_len_is p xs i x (omega arith) (λ k h. n k x h) (λ h. ap p (sym e) ∙ t) in
    let b : nat_lt i (length xs) ≡ true = grind (arith, nat_tests) in
    sym (place_is p xs i a true b)

pub found_none : {X : Type 0} (p : X → Bool) (xs : List X) (i : ℕ) → NoneBelow p xs i → length xs ≤ i → None ≡ position p xs
found_none p [] i n l = refl
found_none p (x ∷ xs) i n l =
    let a : position_or_len p (x ∷ xs) ≡ length (x ∷ xs) = position_or_len_is p (x ∷ xs) (length (x ∷ xs)) x (omega arith) (λ k h. n k x (omega arith)) (λ h. absurd (omega arith)) in
    let b : nat_lt (length (x ∷ xs)) (length (x ∷ xs)) ≡ false = grind (arith, nat_tests) in
    sym (place_is p (x ∷ xs) (length (x ∷ xs)) a false b)

-- those before `low` pass and those from `high` on do not
pub record IsHalved {X : Type 0} (p : X → Bool) (xs : List X) (low high : ℕ) : Type 0 where
  pub ordered : low ≤ high
  pub within : high ≤ length xs
  pub front : (k : ℕ) (d : X) → k < low → p (get_or xs k d) ≡ true
  pub back : (k : ℕ) (d : X) → high ≤ k → k < length xs → p (get_or xs k d) ≡ false

any_default : {X : Type 0} (xs : List X) (i : ℕ) (x d : X) → i < length xs → get_or xs i x ≡ get_or xs i d
any_default [] i x d l = absurd (omega arith)
any_default (y ∷ ys) zero x d l = refl
any_default (y ∷ ys) (suc i) x d l = any_default ys i x d (omega arith)

pub pass_low : {X : Type 0} (p : X → Bool) (xs : List X) → IsPartitionedBy p xs → (low high m : ℕ) (x : X) → IsHalved p xs low high → m < high → x ≡ get_or xs m x → p x ≡ true → IsHalved p xs (m + 1) high
pass_low p xs q low high m x s h e t =
    let w = s.within in
    record {
      ordered = omega arith;
      within = w;
      front = λ k d l. q k m d (omega arith) (omega arith) (ap p (sym (e ∙ any_default xs m x d (omega arith))) ∙ t);
      back = s.back;
    }

pub fail_high : {X : Type 0} (p : X → Bool) (xs : List X) → IsPartitionedBy p xs → (low high m : ℕ) (x : X) → IsHalved p xs low high → low ≤ m → m < high → x ≡ get_or xs m x → p x ≡ false → IsHalved p xs low m
fail_high {X} p xs q low high m x s g h e f =
    let w = s.within in
    record {
      ordered = g;
      within = omega arith;
      front = s.front;
      back = λ k d l u. by_test k d l u (p (get_or xs k d)) refl;
    }
  where
    by_test : (k : ℕ) (d : X) → m ≤ k → k < length xs → (t : Bool) → p (get_or xs k d) ≡ t → p (get_or xs k d) ≡ false
    by_test k d l u true y =
        let z : p (get_or xs m d) ≡ true = q m k d l u y in
        let v : p (get_or xs m d) ≡ false = ap p (sym (e ∙ any_default xs m x d (omega arith))) ∙ f in
        absurd cc
    by_test k d l u false y = y

pub halved_is : {X : Type 0} (p : X → Bool) (xs : List X) (low high : ℕ) → IsHalved p xs low high → high ≤ low → take low xs ≡ filter p xs
halved_is p xs low high s h =
    let o = s.ordered in
    let w = s.within in
    passes_first p xs low ((λ k d l u. s.front k d u), (λ k d l u. s.back k d (omega arith) u)) (omega arith)

-- of elements of which those that pass stand first, one passes where that many pass

none_pass : {X : Type 0} (p : X → Bool) (xs : List X) → ((k : ℕ) (d : X) → k < length xs → p (get_or xs k d) ≡ false) → length (filter p xs) ≡ 0
none_pass p [] h = refl
none_pass p (x ∷ xs) h = let e : p x ≡ false = h 0 x (omega arith) in rw e (none_pass p xs (λ k d l. h (suc k) d (omega arith)))

le_more : (a b : ℕ) → nat_le a b ≡ nat_le (suc a) (suc b)
le_more a b = by_tests (nat_le a b) (nat_le (suc a) (suc b)) refl refl
  where
    by_tests : (s t : Bool) → nat_le a b ≡ s → nat_le (suc a) (suc b) ≡ t → s ≡ t
    by_tests true true p q = refl
    by_tests true false p q = absurd (grind (arith, nat_tests))
    by_tests false true p q = absurd (grind (arith, nat_tests))
    by_tests false false p q = refl

pub last_tells : {X : Type 0} (p : X → Bool) (xs : List X) → IsPartitionedBy p xs → (i : ℕ) (d : X) → i < length xs → p (get_or xs i d) ≡ nat_le (suc i) (length (filter p xs))
last_tells p [] q i d l = absurd (omega arith)
last_tells {X} p (x ∷ xs) q i d l = by_test (p x) refl i l (λ j k. last_tells p xs (λ a b e h u t. q (suc a) (suc b) e (omega arith) (omega arith) t) j d k)
  where
    later : p x ≡ false → (k : ℕ) (e : X) → k < length xs → (t : Bool) → p (get_or xs k e) ≡ t → p (get_or xs k e) ≡ false
    later f k e u true y = let z : p x ≡ true = q 0 (suc k) e (omega arith) (omega arith) y in absurd cc
    later f k e u false y = y

    by_test : (t : Bool) → p x ≡ t → (i : ℕ) → i < length (x ∷ xs) → ((j : ℕ) → j < length xs → p (get_or xs j d) ≡ nat_le (suc j) (length (filter p xs)))
        → p (get_or (x ∷ xs) i d) ≡ nat_le (suc i) (length (cond t (x ∷ filter p xs) (filter p xs)))
    by_test true e zero l r = let f : nat_le 1 (suc (length (filter p xs))) ≡ true = grind (arith, nat_tests) in e ∙ sym f
    by_test true e (suc i) l r = r i (omega arith) ∙ le_more (suc i) (length (filter p xs))
    by_test false e zero l r =
        let z : length (filter p xs) ≡ 0 = none_pass p xs (λ k a u. later e k a u (p (get_or xs k a)) refl) in
        let f : nat_le 1 (length (filter p xs)) ≡ false = grind (arith, nat_tests) in
        e ∙ sym f
    by_test false e (suc i) l r =
        let z : length (filter p xs) ≡ 0 = none_pass p xs (λ k a u. later e k a u (p (get_or xs k a)) refl) in
        let f : nat_le (suc (suc i)) (length (filter p xs)) ≡ false = grind (arith, nat_tests) in
        later e i d (omega arith) (p (get_or xs i d)) refl ∙ sym f
