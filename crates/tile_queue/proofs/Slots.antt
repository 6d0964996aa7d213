-- Lists in slots.
use Rattle.std.proofs.Common.{◌≡◌, ℕ, ◌+◌, ◌<◌, ◌≤◌, ◌==◌, nat_lt, zero, suc, Bool, true, false, Option, Some, None, Result, Ok, Err, List, [], ◌∷◌, ◌++◌, length, map, take, drop, get_or, refl, sym, ◌∙◌, ap, subst, arith, length-append}
use Rattle.std.specs.Prelude.{OnOk, OnErr, OnSome, IsSome}
use Rattle.std.specs.List.{insert, remove}
use Rattle.std.specs.List.Sorted.{IsPermutation, IsBinarySearchResult, IsSearchInRange}
use Rattle.std.specs.declared.cmp.Ordering.{Ordering}
use Rattle.std.specs.declared.cmp.Ordering.TheVariants.{Less, Equal, Greater}
use Rattle.std.specs.Ordering.{ordering_index}
use Rattle.std.proofs.lemmas.Bool.Decides.{nat_tests}
use Rattle.std.proofs.lemmas.List.{map-append, take-map, drop-map, length-map, length-take, length-drop, length-set, get_or-map, get_or-set_same, get_or-set_other, take_all}
use Rattle.std.proofs.lemmas.List.Sums.{sum_by-cons, sum_by_push, sum_by-insert}
use Rattle.std.proofs.lemmas.List.Sorted.{IsPermutation-map}
use Rattle.std.proofs.Math.ListN.{set}
use Rattle.std.proofs.Math.Seq.{take-suc}
use Rattle.tile_queue.specs.inner.Listing.{one_if, uses, up_to, place_in, IsListing, IsStored}

-- calls that fail only without room

pub with_room : {T E : Type 0} (r : Result T E) {Full Done : Type 0} → OnErr r Full → OnOk r Done → (Full → ⊥) → Done
with_room (Ok x) full done room = done
with_room (Err e) full done room = absurd (room full)

pub when_some : {T : Type 0} (o : Option T) {P : Type 0} → OnSome o P → IsSome o → P
when_some None p s = absurd cc
when_some (Some x) p s = p

-- how often a slot stands in a list

one_same : (i : ℕ) → one_if (i == i) ≡ 1
one_same i = let e : (i == i) ≡ true = grind (arith, nat_tests) in rw e refl

below_one : (i n : ℕ) → 1 ≤ one_if (nat_lt i n) → i < n
below_one i n h = by_test (nat_lt i n) refl h
  where
    by_test : (t : Bool) → nat_lt i n ≡ t → 1 ≤ one_if t → i < n
    by_test true e h = grind (arith, nat_tests)
    by_test false e h = absurd (omega arith)

one_more_below : (i n : ℕ) → one_if (nat_lt i n) + one_if (n == i) ≡ one_if (nat_lt i (suc n))
one_more_below i n = by_tests (nat_lt i n) (n == i) (nat_lt i (suc n)) refl refl refl
  where
    by_tests : (a b t : Bool) → nat_lt i n ≡ a → (n == i) ≡ b → nat_lt i (suc n) ≡ t → one_if a + one_if b ≡ one_if t
    by_tests true true t p q r = absurd (grind (arith, nat_tests))
    by_tests true false true p q r = refl
    by_tests true false false p q r = absurd (grind (arith, nat_tests))
    by_tests false true true p q r = refl
    by_tests false true false p q r = absurd (grind (arith, nat_tests))
    by_tests false false true p q r = absurd (grind (arith, nat_tests))
    by_tests false false false p q r = refl

pub uses_up_to : (i n : ℕ) → uses i (up_to n) ≡ one_if (nat_lt i n)
uses_up_to i zero = let e : nat_lt i 0 ≡ false = grind (arith, nat_tests) in rw e refl
uses_up_to i (suc n) = let a = sum_by_push (λ j. one_if (j == i)) (up_to n) n in let b = uses_up_to i n in let d = one_more_below i n in omega arith

pub length_up_to : (n : ℕ) → length (up_to n) ≡ n
length_up_to zero = refl
length_up_to (suc n) = let a = length-append (up_to n) (n ∷ []) in let b = length_up_to n in omega arith

pub up_to_more : (n : ℕ) → up_to (n + 1) ≡ up_to n ++ n ∷ []
up_to_more n = let e : n + 1 ≡ suc n = omega arith in rw e refl

-- the elements of slots

pub map_kept : {X : Type 0} (f g : ℕ → X) (xs : List ℕ) → ((i : ℕ) → 1 ≤ uses i xs → f i ≡ g i) → map f xs ≡ map g xs
map_kept f g [] h = refl
map_kept f g (j ∷ js) h =
    let a = sum_by-cons (λ k. one_if (k == j)) j js in
    let b = one_same j in
    let e : f j ≡ g j = h j (omega arith) in
    ap (λ y. y ∷ map f js) e ∙ ap (λ ys. g j ∷ ys) (map_kept f g js (λ i u. h i (let d = sum_by-cons (λ k. one_if (k == i)) j js in omega arith)))

pub insert_map : {X : Type 0} (f : ℕ → X) (xs : List ℕ) (i s : ℕ) → map f (insert xs i s) ≡ insert (map f xs) i (f s)
insert_map f xs i s =
    map-append f (take i xs) (s ∷ drop i xs)
    ∙ ap (λ ys. ys ++ f s ∷ map f (drop i xs)) (sym (take-map f i xs))
    ∙ ap (λ ys. take i (map f xs) ++ f s ∷ ys) (sym (drop-map f i xs))

pub remove_map : {X : Type 0} (f : ℕ → X) (xs : List ℕ) (i : ℕ) → map f (remove xs i) ≡ remove (map f xs) i
remove_map f xs i =
    map-append f (take i xs) (drop (suc i) xs)
    ∙ ap (λ ys. ys ++ map f (drop (suc i) xs)) (sym (take-map f i xs))
    ∙ ap (λ ys. take i (map f xs) ++ ys) (sym (drop-map f (suc i) xs))

take_up_to : {X : Type 0} (items : List X) (nothing : X) (n : ℕ) → n ≤ length items → map (λ i. get_or items i nothing) (up_to n) ≡ take n items
take_up_to items nothing zero h = refl
take_up_to items nothing (suc n) h =
    map-append (λ i. get_or items i nothing) (up_to n) (n ∷ [])
    ∙ ap (λ ys. ys ++ get_or items n nothing ∷ []) (take_up_to items nothing n (omega arith))
    ∙ sym (take-suc items n nothing (omega arith))

pub all_up_to : {X : Type 0} (items : List X) (nothing : X) → map (λ i. get_or items i nothing) (up_to (length items)) ≡ items
all_up_to items nothing = take_up_to items nothing (length items) (omega arith) ∙ take_all (length items) items (omega arith)

-- a new list

pub new_listing : {X : Type 0} (items : List X) (order free : List ℕ) (room a b d : ℕ) → order ≡ up_to (length items) → free ≡ [] → length items ≤ room → room ≤ 4294967295 → room ≤ a → room ≤ b → room ≤ d
    → IsListing items order free room a b d
new_listing items order free room a b d e z l s la lb ld = record {
  once = λ i.
      let u : uses i order ≡ one_if (nat_lt i (length items)) = ap (uses i) e ∙ uses_up_to i (length items) in
      let v : uses i free ≡ 0 = ap (uses i) z in
      omega arith;
  all = let u : length order ≡ length items = ap length e ∙ length_up_to (length items) in let v : length free ≡ 0 = ap length z in omega arith;
  few = l;
  small = s;
  fits_slots = la;
  fits_order = lb;
  fits_free = ld;
}

-- an element is put into a slot that was free

last_uses : (i s : ℕ) (free free' : List ℕ) → free ≡ free' ++ s ∷ [] → uses i free ≡ uses i free' + one_if (s == i)
last_uses i s free free' e = ap (uses i) e ∙ sum_by_push (λ j. one_if (j == i)) free' s

pub free_within : {X : Type 0} (slots : List X) (free free' : List ℕ) (s : ℕ) → free ≡ free' ++ s ∷ [] → ((i : ℕ) → uses i free ≤ one_if (nat_lt i (length slots))) → s < length slots
free_within slots free free' s e h = let a = last_uses s s free free' e in let b = one_same s in let d = h s in below_one s (length slots) (omega arith)

pub stored_free : {X : Type 0} (x : X) (slots : List X) (free free' : List ℕ) (s : ℕ) → free ≡ free' ++ s ∷ [] → ((i : ℕ) → uses i free ≤ one_if (nat_lt i (length slots))) → IsStored x slots free (set slots s x) free' s
stored_free x slots free free' s e h =
    let l : length (set slots s x) ≡ length slots = length-set slots s x in
    let n : length free ≡ length free' + 1 = ap length e ∙ length-append free' (s ∷ []) in
    record {
      there = λ d. get_or-set_same slots s x d (free_within slots free free' s e h);
      kept = λ i d z k. get_or-set_other slots s i x d (λ (q : i ≡ s).
          let y : uses s free ≡ 0 = subst (λ (m : ℕ). uses m free ≡ 0) q z in
          let a = last_uses s s free free' e in
          let b = one_same s in
          omega arith);
      taken = λ i.
          let a = last_uses i s free free' e in
          let b : one_if (nat_lt i (length (set slots s x))) ≡ one_if (nat_lt i (length slots)) = ap (λ m. one_if (nat_lt i m)) l in
          omega arith;
      lengths = omega arith;
      fewer = omega arith;
      full = λ m q r. omega arith;
    }

-- an element is put into the list

length_insert : {X : Type 0} (xs : List X) (i : ℕ) (x : X) → i ≤ length xs → length (insert xs i x) ≡ length xs + 1
length_insert xs i x h = let a = length-append (take i xs) (x ∷ drop i xs) in let b = length-take i xs in let d = length-drop i xs in omega arith

pub insert_listing : {X : Type 0} (x : X) (slots slots' : List X) (order order' free free' : List ℕ) (s at room a b d a' b' d' : ℕ) → IsListing slots order free room a b d → IsStored x slots free slots' free' s
    → at ≤ length order → length order < room → order' ≡ insert order at s → a ≤ a' → b ≤ b' → d ≡ d' → IsListing slots' order' free' room a' b' d'
insert_listing x slots slots' order order' free free' s at room a b d a' b' d' l t h r e la lb ld =
    let n : length order' ≡ length order + 1 = ap length e ∙ length_insert order at s h in
    let o1 = t.lengths in
    let o2 = t.fewer in
    let o4 = l.all in
    let o5 = l.few in
    let o3 : length slots' ≤ room = t.full room o5 (omega arith) in
    record {
      once = λ i.
          let u : uses i order' ≡ uses i order + one_if (s == i) = ap (uses i) e ∙ sum_by-insert (λ j. one_if (j == i)) order at s in
          let v = t.taken i in
          let w = l.once i in
          omega arith;
      all = omega arith;
      few = omega arith;
      small = l.small;
      fits_slots = let k = l.fits_slots in omega arith;
      fits_order = let k = l.fits_order in omega arith;
      fits_free = let k = l.fits_free in omega arith;
    }

pub insert_items : {X : Type 0} (x nothing : X) (slots slots' : List X) (order free free' : List ℕ) (s at room a b d : ℕ) → IsListing slots order free room a b d → IsStored x slots free slots' free' s
    → map (λ i. get_or slots' i nothing) (insert order at s) ≡ insert (map (λ i. get_or slots i nothing) order) at x
insert_items x nothing slots slots' order free free' s at room a b d l t =
    insert_map (λ i. get_or slots' i nothing) order at s
    ∙ ap (insert (map (λ i. get_or slots' i nothing) order) at) (t.there nothing)
    ∙ ap (λ xs. insert xs at x) (map_kept (λ i. get_or slots' i nothing) (λ i. get_or slots i nothing) order (λ i u.
    let o = l.once i in t.kept i nothing (free_of i u) (below_one i (length slots) (omega arith))))
  where
    at_most : (t : Bool) → one_if t ≤ 1
    at_most true = omega arith
    at_most false = omega arith

    free_of : (i : ℕ) → 1 ≤ uses i order → uses i free ≡ 0
    free_of i u = let o = l.once i in let m = at_most (nat_lt i (length slots)) in omega arith

-- where a search ends

pub search_map : {X : Type 0} (f : ℕ → X) (ord : X → Ordering) (xs : List ℕ) (r : Result ℕ ℕ) → IsSearchInRange r (length xs) → IsBinarySearchResult (λ i. ord (f i)) xs r → IsBinarySearchResult ord (map f xs) r
search_map f ord xs (Ok i) l h = λ d. subst (λ y. ord y ≡ Equal) (sym (get_or-map f xs i 0 d l)) (h 0)
search_map {X} f ord xs (Err i) l h = λ rises.
    let n : length (map f xs) ≡ length xs = length-map xs f in
    let p = h (λ j k d le lt.
    let u : ordering_index (ord (get_or (map f xs) j (f d))) ≡ ordering_index (ord (f (get_or xs j d))) = ap (λ (y : X). ordering_index (ord y)) (get_or-map f xs j d (f d) (omega arith)) in
    let v : ordering_index (ord (get_or (map f xs) k (f d))) ≡ ordering_index (ord (f (get_or xs k d))) = ap (λ (y : X). ordering_index (ord y)) (get_or-map f xs k d (f d) (omega arith)) in
    let w : ordering_index (ord (get_or (map f xs) j (f d))) ≤ ordering_index (ord (get_or (map f xs) k (f d))) = rises j k (f d) le (omega arith) in
    omega arith) in (
      (λ k d lo hi. subst (λ (y : X). ord y ≡ Less) (sym (get_or-map f xs k 0 d (omega arith))) (p.0 k 0 lo hi)),
      (λ k d lo hi. subst (λ (y : X). ord y ≡ Greater) (sym (get_or-map f xs k 0 d (omega arith))) (p.1 k 0 lo (omega arith))),
    )

-- elements by their words

map_map : {X : Type 0} (f : ℕ → X) (g : ℕ → ℕ) (xs : List ℕ) → map f (map g xs) ≡ map (λ x. f (g x)) xs
map_map f g [] = refl
map_map f g (x ∷ xs) = ap (λ ys. f (g x) ∷ ys) (map_map f g xs)

pub gathered : {X : Type 0} (items sorted : List X) (nothing : X) (words words' : List ℕ) → map place_in words ≡ up_to (length items) → IsPermutation words words' → sorted ≡ map (λ w. get_or items (place_in w) nothing) words'
    → IsPermutation items sorted
gathered {X} items sorted nothing words words' e p s =
    let f : ℕ → X = λ w. get_or items (place_in w) nothing in
    let a : map f words ≡ items = sym (map_map (λ i. get_or items i nothing) place_in words) ∙ ap (map (λ i. get_or items i nothing)) e ∙ all_up_to items nothing in
    subst (IsPermutation items) (sym s) (subst (λ (xs : List X). IsPermutation xs (map f words')) a (IsPermutation-map f words words' p))
