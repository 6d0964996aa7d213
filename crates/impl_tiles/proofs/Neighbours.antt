-- What the neighbours of a place tell of lists in key order.
use Rattle.std.proofs.Common.{◌≡◌, ◌==◌, inl, inr, ℕ, ◌+◌, ◌-◌, ◌<◌, ◌≤◌, Bool, true, false, List, length, get_or, Err, refl, sym, ◌∙◌, subst, arith}
use Rattle.std.proofs.lemmas.Bool.{cases_lt}
use Rattle.std.specs.declared.cmp.Ordering.{Ordering}
use Rattle.std.specs.declared.cmp.Ordering.TheVariants.{Less, Equal, Greater}
use Rattle.std.specs.Ordering.{ordering_index, is_lt}
use Rattle.std.specs.List.Sorted.{IsSorted, IsSortedBy}
use Rattle.std.proofs.lemmas.List.Sorted.{searchable_from_sorted}
use Rattle.geom.specs.declared.tile.TileKey.{TileKey}
use Rattle.geom.specs.KeyOrder.{key_cmp}
use Rattle.geom.specs.KeyLists.{has_key}
use Rattle.geom.proofs.KeyOrders.{key_total}
use Rattle.impl_tiles.specs.Passed.{AreLessBefore}
use Rattle.impl_tiles.proofs.PinFacts.{found}

-- what a test of an order tells

pub told_less : (o : Ordering) → (ordering_index o == 0) ≡ true → o ≡ Less
told_less Less e = refl
told_less Equal e = absurd cc
told_less Greater e = absurd cc

pub told_greater : (o : Ordering) → (ordering_index o == 2) ≡ true → o ≡ Greater
told_greater Less e = absurd cc
told_greater Equal e = absurd cc
told_greater Greater e = refl

at_most_less : (o : Ordering) → ordering_index o ≤ 0 → o ≡ Less
at_most_less Less le = refl
at_most_less Equal le = absurd (omega arith)
at_most_less Greater le = absurd (omega arith)

at_least_greater : (o : Ordering) → 2 ≤ ordering_index o → o ≡ Greater
at_least_greater Less le = absurd (omega arith)
at_least_greater Equal le = absurd (omega arith)
at_least_greater Greater le = refl

-- where the element before a place is less, all before it are; where the one at it is greater, all from it on are

pub less_before : {X : Type 0} (key_of : X → TileKey) (xs : List X) (key : TileKey) (at : ℕ) (o : Ordering) → IsSortedBy (λ x y. is_lt (key_cmp (key_of x) (key_of y))) xs
    → ((d : X) → at - 1 < length xs → key_cmp (key_of (get_or xs (at - 1) d)) key ≡ o) → (length xs ≤ at - 1 → o ≡ Greater) → o ≡ Less
    → (i : ℕ) (d : X) → i < at → key_cmp (key_of (get_or xs i d)) key ≡ Less
less_before key_of xs key at o up there end less i d l = elim (cases_lt (at - 1) (length xs)) [
  | inl within ↦ at_most_less (key_cmp (key_of (get_or xs i d)) key)
      (subst (λ q. ordering_index (key_cmp (key_of (get_or xs i d)) key) ≤ ordering_index q) (there d within ∙ less) (searchable_from_sorted key_total key_of xs key up i (at - 1) d (omega arith) within))
  | inr past ↦ let both : Less ≡ Greater = sym less ∙ end past in absurd cc
]

pub greater_from : {X : Type 0} (key_of : X → TileKey) (xs : List X) (key : TileKey) (at : ℕ) (o : Ordering) → IsSortedBy (λ x y. is_lt (key_cmp (key_of x) (key_of y))) xs
    → ((d : X) → at < length xs → key_cmp (key_of (get_or xs at d)) key ≡ o) → o ≡ Greater
    → (i : ℕ) (d : X) → at ≤ i → i < length xs → key_cmp (key_of (get_or xs i d)) key ≡ Greater
greater_from key_of xs key at o up there greater i d le lt =
    at_least_greater (key_cmp (key_of (get_or xs i d)) key)
    (subst (λ q. ordering_index q ≤ ordering_index (key_cmp (key_of (get_or xs i d)) key)) (there d (omega arith) ∙ greater) (searchable_from_sorted key_total key_of xs key up at i d le lt))

-- then the key is missing
pub missing : (xs : List TileKey) (key : TileKey) (at : ℕ) → IsSorted key_cmp xs → at ≤ length xs → ((i : ℕ) (d : TileKey) → i < at → key_cmp (get_or xs i d) key ≡ Less)
    → ((i : ℕ) (d : TileKey) → at ≤ i → i < length xs → key_cmp (get_or xs i d) key ≡ Greater) → has_key xs key ≡ false
missing xs key at up range below above = sym (found xs key (Err at) up range (λ rises. (λ i d low lt. below i d lt, above)))

-- ---- keys that are passed

-- one more is passed that is less
pub one_passed : (xs : List TileKey) (key : TileKey) (at : ℕ) (o : Ordering) → ((d : TileKey) → at < length xs → key_cmp (get_or xs at d) key ≡ o) → (length xs ≤ at → o ≡ Greater) → o ≡ Less
    → AreLessBefore xs at key → AreLessBefore xs (at + 1) key
one_passed xs key at o there end less before = elim (cases_lt at (length xs)) [
  | inl within ↦ record {
    bound = omega (arith);
    less = λ i d lt. elim (cases_lt i at) [
      | inl l ↦ before.less i d l
      | inr past ↦ let e : at ≡ i = omega (arith) in subst (λ k. key_cmp (get_or xs k d) key ≡ Less) e (there d within ∙ less)
    ];
  }
  | inr past ↦ let both : Less ≡ Greater = sym less ∙ end past in absurd cc
]

-- where the next key is not less, and is not the key, the key is missing
pub next_tells : (xs : List TileKey) (key : TileKey) (at : ℕ) → IsSorted key_cmp xs → AreLessBefore xs at key → ((d : TileKey) → at < length xs → key_cmp (get_or xs at d) key ≡ Less → ⊥)
    → ((d : TileKey) → at < length xs → key_cmp (get_or xs at d) key ≡ Equal → ⊥) → has_key xs key ≡ false
next_tells xs key at up before stops other = missing xs key at up before.bound before.less (elim (cases_lt at (length xs)) [
  | inl within ↦ greater_from (λ (k : TileKey). k) xs key at Greater up (λ d l. by_order (key_cmp (get_or xs at d) key) refl (stops d l) (other d l)) refl
  | inr past ↦ λ i d le lt. absurd (omega (arith))
])
  where
    by_order : (o : Ordering) {p : Ordering} → p ≡ o → (p ≡ Less → ⊥) → (p ≡ Equal → ⊥) → p ≡ Greater
    by_order Less e less equal = absurd (less e)
    by_order Equal e less equal = absurd (equal e)
    by_order Greater e less equal = e

-- so whether it is the next one is whether it is one of them
pub next_is : (xs : List TileKey) (key : TileKey) (at : ℕ) (is : Bool) → IsSorted key_cmp xs → AreLessBefore xs at key → ((d : TileKey) → at < length xs → key_cmp (get_or xs at d) key ≡ Less → ⊥)
    → (is ≡ true → has_key xs key ≡ true) → (is ≡ false → (d : TileKey) → at < length xs → key_cmp (get_or xs at d) key ≡ Equal → ⊥) → is ≡ has_key xs key
next_is xs key at true up before stops has other = sym (has refl)
next_is xs key at false up before stops has other = sym (next_tells xs key at up before stops (other refl))
