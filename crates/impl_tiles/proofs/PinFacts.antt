-- Sorted keys find what their list has.
use Rattle.std.proofs.Common.{◌≡◌, inl, inr, ℕ, zero, suc, ◌<◌, Bool, true, false, List, [], ◌∷◌, length, get_or, Result, Ok, Err, is_ok, refl, sym, ◌∙◌, ap, arith}
use Rattle.std.proofs.lemmas.Bool.{or_left, or_right, or_from, cases_lt}
use Rattle.std.specs.Ordering.{eq_by_cmp, is_eq}
use Rattle.std.specs.List.{list_any}
use Rattle.std.specs.List.Sorted.{IsPermutation, IsSorted, IsSearchInRange, IsBinarySearchResult}
use Rattle.std.proofs.lemmas.List.Sorted.{searchable_from_sorted, list_any-IsPermutation}
use Rattle.geom.specs.declared.tile.TileKey.{TileKey}
use Rattle.geom.specs.KeyOrder.{key_cmp}
use Rattle.geom.specs.KeyLists.{same_key, has_key}
use Rattle.geom.proofs.KeyOrders.{key_total}
use Rattle.geom.proofs.KeyLists.{has_key_ties}
use Rattle.impl_tiles.proofs.StoreKeyOrders.{flips, flips_back, tied_back}

any_at : (p : TileKey → Bool) (xs : List TileKey) (i : ℕ) → i < length xs → ((d : TileKey) → p (get_or xs i d) ≡ true) → list_any p xs ≡ true
any_at p [] i lt is = absurd (omega arith)
any_at p (x ∷ xs) zero lt is = or_left (p x) (list_any p xs) (is x)
any_at p (x ∷ xs) (suc i) lt is = or_right (p x) (list_any p xs) (any_at p xs i (omega arith) is)

none_at : (p : TileKey → Bool) (xs : List TileKey) → ((i : ℕ) (d : TileKey) → i < length xs → p (get_or xs i d) ≡ false) → list_any p xs ≡ false
none_at p [] is = refl
none_at p (x ∷ xs) is = or_from (p x) (list_any p xs) (is 0 x (omega arith)) (none_at p xs (λ i d lt. is (suc i) d (omega arith)))

listed : (xs : List TileKey) (key : TileKey) (r : Result ℕ ℕ) → IsSorted key_cmp xs → IsSearchInRange r (length xs) → IsBinarySearchResult (λ y. key_cmp y key) xs r
    → is_ok r ≡ list_any (eq_by_cmp key_cmp key) xs
listed xs key (Ok at) up range result = sym (any_at (eq_by_cmp key_cmp key) xs at range (λ d. ap is_eq (tied_back (get_or xs at d) key (result d))))
listed xs key (Err at) up range result =
    let parted = result (searchable_from_sorted key_total (λ k. k) xs key up) in
    sym (none_at (eq_by_cmp key_cmp key) xs (λ i d lt. elim (cases_lt i at) [
      | inl below ↦ ap is_eq (flips (get_or xs i d) key (parted.0 i d (omega arith) below))
      | inr above ↦ ap is_eq (flips_back (get_or xs i d) key (parted.1 i d above lt))
    ]))

-- a binary search finds a key exactly where it is listed
pub found : (xs : List TileKey) (key : TileKey) (r : Result ℕ ℕ) → IsSorted key_cmp xs → IsSearchInRange r (length xs) → IsBinarySearchResult (λ y. key_cmp y key) xs r → is_ok r ≡ has_key xs key
found xs key r up range result = listed xs key r up range result ∙ sym (has_key_ties xs key)

pub same_keys : (xs ys : List TileKey) (q : TileKey) → IsPermutation xs ys → has_key ys q ≡ has_key xs q
same_keys xs ys q h = sym (list_any-IsPermutation (λ k. same_key k q) xs ys h)
