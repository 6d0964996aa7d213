-- The index of a family.
use Rattle.std.proofs.Common.{◌≡◌, ℕ, zero, suc, ◌+◌, ◌<◌, ◌≤◌, ◌==◌, nat_lt, Bool, true, false, cond, List, [], ◌∷◌, ◌++◌, length, get_or, set, reverse, slice_get, Option, Some, None, is_some, arith, refl, sym, ◌∙◌, ap, subst, inl, inr, ◌⊎◌}
use Rattle.std.proofs.lemmas.Bool.Decides.{nat_tests}
use Rattle.std.proofs.lemmas.Bool.{cases_lt, cases_order}
use Rattle.std.proofs.lemmas.List.{reverse-append, reverse-reverse, length-append, length-reverse, length-map, set-append_left, set_at}
use Rattle.std.specs.List.{prefix_len, insert}
use Rattle.std.specs.List.Sorted.{IsPartitionedBy, IsPartitionPoint}
use Rattle.page_properties.specs.declared.index.IndexEntry.{IndexEntry}
use Rattle.page_properties.specs.inner.Index.{put, index_of, place_of, listed_place, front, AreAbove, AreRising, IsIndex, IsEntryOf}
use Rattle.page_properties.specs.Entries.{ids, find, knows, with_node_changed, AreDistinctIds}

above_at : (id : ℕ) (entries : List IndexEntry) (k : ℕ) (d : IndexEntry) → AreAbove id entries → k < length entries → id < (get_or entries k d).id
above_at id [] k d a h = absurd (omega arith)
above_at id (s ∷ ss) zero d a h = a.0
above_at id (s ∷ ss) (suc k) d a h = above_at id ss k d a.1 (omega arith)

-- where an entry has a smaller id, those before it have smaller ones
pub smaller_first : (id : ℕ) (entries : List IndexEntry) → AreRising entries → IsPartitionedBy (λ s. nat_lt s.id id) entries
smaller_first id [] r i j d le lt e = absurd (omega arith)
smaller_first id (s ∷ ss) r zero zero d le lt e = e
smaller_first id (s ∷ ss) r zero (suc j) d le lt e =
    let a = above_at s.id ss j d r.0 (omega arith) in grind (arith, nat_tests)
smaller_first id (s ∷ ss) r (suc i) zero d le lt e = absurd (omega arith)
smaller_first id (s ∷ ss) r (suc i) (suc j) d le lt e = smaller_first id ss r.1 i j d (omega arith) (omega arith) e

-- the place between those that pass and those that fail is the length of the prefix that passes
point_is : (p : IndexEntry → Bool) (entries : List IndexEntry) (i : ℕ) → IsPartitionPoint (λ s. p s ≡ true) (λ s. p s ≡ false) entries i → i ≤ length entries
    → i ≡ prefix_len p entries
point_is p [] zero s h = refl
point_is p [] (suc i) s h = absurd (omega arith)
point_is p (x ∷ xs) zero s h = let f : p x ≡ false = s.1 0 x (omega arith) (omega arith) in rw f refl
point_is p (x ∷ xs) (suc i) s h =
    let t : p x ≡ true = s.0 0 x (omega arith) (omega arith) in
    let e = point_is p xs i ((λ k d l u. s.0 (suc k) d (omega arith) (omega arith)), (λ k d l u. s.1 (suc k) d (omega arith) (omega arith))) (omega arith) in
    rw t (omega (arith, e))

pub point_is_front : (id : ℕ) (entries : List IndexEntry) (i : ℕ) → IsPartitionPoint (λ s. nat_lt s.id id ≡ true) (λ s. nat_lt s.id id ≡ false) entries i → i ≤ length entries
    → i ≡ front id entries
unfolding front
point_is_front id entries i s h = point_is (λ s. nat_lt s.id id) entries i s h

-- inserting after the smaller ids is `put`
insert_by : (s x : IndexEntry) (xs : List IndexEntry) (n : ℕ) (t : Bool) → insert xs n s ≡ put s xs
    → insert (x ∷ xs) (cond t (1 + n) 0) s ≡ cond t (x ∷ put s xs) (s ∷ x ∷ xs)
insert_by s x xs n true e = let one : 1 + n ≡ suc n = omega arith in rw one (ap (λ l. x ∷ l) e)
insert_by s x xs n false e = refl

pub insert_put : (s : IndexEntry) (entries : List IndexEntry) → insert entries (front s.id entries) s ≡ put s entries
unfolding front
insert_put s [] = refl
insert_put s (x ∷ xs) = insert_by s x xs (prefix_len (λ t. nat_lt t.id s.id) xs) (nat_lt x.id s.id) (insert_put s xs)

-- no entry above has the id
none_above : (id n : ℕ) (entries : List IndexEntry) → id ≤ n → AreAbove n entries → listed_place id entries ≡ None
none_above id n [] h a = refl
none_above id n (s ∷ ss) h a =
    let t : s.id == id ≡ false = grind (arith, nat_tests, a.0) in rw t (none_above id n ss h a.1)

-- the place that a entry gives where it has the id
abbrev pub named : ℕ → Option IndexEntry → Option ℕ
named id None = None
named id (Some s) = cond (s.id == id) (Some s.place) None

found_by : (id : ℕ) (x : IndexEntry) (xs : List IndexEntry) (n : ℕ) → (x.id < id) ⊎ (id ≤ x.id) → AreAbove x.id xs → listed_place id xs ≡ named id (slice_get xs n)
    → listed_place id (x ∷ xs) ≡ named id (slice_get (x ∷ xs) (cond (nat_lt x.id id) (1 + n) 0))
found_by id x xs n (inl l) a e =
    let t : x.id == id ≡ false = grind (arith, nat_tests) in
    let u : nat_lt x.id id ≡ true = grind (arith, nat_tests) in
    let one : 1 + n ≡ suc n = omega arith in rw (t, u, one) e
found_by id x xs n (inr l) a e =
    let u : nat_lt x.id id ≡ false = grind (arith, nat_tests) in rw (u, none_above id x.id xs l a) refl

-- the entry after the smaller ids is the one with the id, where there is one
pub entry_found : (id : ℕ) (entries : List IndexEntry) → AreRising entries
    → listed_place id entries ≡ named id (slice_get entries (front id entries))
unfolding front
entry_found id [] r = refl
entry_found id (x ∷ xs) r = found_by id x xs (prefix_len (λ t. nat_lt t.id id) xs) (cases_lt x.id id) r.0 (entry_found id xs r.1)

pub read_at : {A : Type 0} (xs : List A) (k : ℕ) (d : A) → k < length xs → slice_get xs k ≡ Some (get_or xs k d)
read_at [] k d h = absurd (omega arith)
read_at (x ∷ xs) zero d h = refl
read_at (x ∷ xs) (suc k) d h = read_at xs k d (omega arith)

read_past : {A : Type 0} (xs : List A) (k : ℕ) → length xs ≤ k → slice_get xs k ≡ None
read_past [] k h = refl
read_past (x ∷ xs) zero h = absurd (omega arith)
read_past (x ∷ xs) (suc k) h = read_past xs k (omega arith)

-- the same by what the code reads there
pub entry_here : (id : ℕ) (entries : List IndexEntry) (d : IndexEntry) → AreRising entries → front id entries < length entries → (get_or entries (front id entries) d).id ≡ id
    → Some ((get_or entries (front id entries) d).place) ≡ listed_place id entries
entry_here id entries d r h e =
    let t : (get_or entries (front id entries) d).id == id ≡ true = grind (arith, nat_tests) in
    sym (entry_found id entries r ∙ rw (read_at entries (front id entries) d h, t) refl)

pub entry_other : (id : ℕ) (entries : List IndexEntry) (d : IndexEntry) → AreRising entries → front id entries < length entries
    → ((get_or entries (front id entries) d).id ≡ id → ⊥) → None ≡ listed_place id entries
entry_other id entries d r h e =
    let t : (get_or entries (front id entries) d).id == id ≡ false = grind (arith, nat_tests) in
    sym (entry_found id entries r ∙ rw (read_at entries (front id entries) d h, t) refl)

pub entry_past : (id : ℕ) (entries : List IndexEntry) → AreRising entries → length entries ≤ front id entries → None ≡ listed_place id entries
entry_past id entries r h = sym (entry_found id entries r ∙ rw (read_past entries (front id entries) h) refl)

-- an id below the first one is not there
pub entry_before : (id : ℕ) (entries : List IndexEntry) (d : IndexEntry) → AreRising entries → 0 < length entries → id < (get_or entries 0 d).id → None ≡ listed_place id entries
entry_before id [] d r h l = refl
entry_before id (s ∷ ss) d r h l =
    let t : s.id == id ≡ false = grind (arith, nat_tests) in sym (rw t (none_above id s.id ss (omega arith) r.0))

-- two tests that are not both true may be asked in either order
in_turn : {A : Type 0} (a b : Bool) (u v w : A) → (a ≡ true → b ≡ true → ⊥) → cond a u (cond b v w) ≡ cond b v (cond a u w)
in_turn true true u v w f = absurd (f refl refl)
in_turn true false u v w f = refl
in_turn false b u v w f = refl

put_by : (id : ℕ) (s x : IndexEntry) (xs : List IndexEntry) → (x.id < s.id) ⊎ (s.id ≤ x.id) → listed_place id (put s xs) ≡ cond (s.id == id) (Some s.place) (listed_place id xs)
    → listed_place id (cond (nat_lt x.id s.id) (x ∷ put s xs) (s ∷ x ∷ xs)) ≡ cond (s.id == id) (Some s.place) (listed_place id (x ∷ xs))
put_by id s x xs (inl l) e =
    let u : nat_lt x.id s.id ≡ true = grind (arith, nat_tests) in
    rw (u, e) (in_turn (x.id == id) (s.id == id) (Some x.place) (Some s.place) (listed_place id xs) (λ h k. absurd (grind (arith, nat_tests))))
put_by id s x xs (inr l) e = let u : nat_lt x.id s.id ≡ false = grind (arith, nat_tests) in rw u refl

-- the new entry is found under its id, all others as before
entry_put : (id : ℕ) (s : IndexEntry) (entries : List IndexEntry) → listed_place id (put s entries) ≡ cond (s.id == id) (Some s.place) (listed_place id entries)
entry_put id s [] = refl
entry_put id s (x ∷ xs) = put_by id s x xs (cases_lt x.id s.id) (entry_put id s xs)

-- the index names each id's place
pub entry_index : (id : ℕ) (xs : List ℕ) → listed_place id (index_of xs) ≡ place_of id xs
entry_index id [] = refl
entry_index id (x ∷ xs) =
    entry_put id (record { id = x; place = length xs }) (index_of xs) ∙ ap (λ o. cond (x == id) (Some (length xs)) o) (entry_index id xs)

above_by : (n : ℕ) (s x : IndexEntry) (xs : List IndexEntry) (t : Bool) → n < s.id → AreAbove n (x ∷ xs) → AreAbove n (put s xs)
    → AreAbove n (cond t (x ∷ put s xs) (s ∷ x ∷ xs))
above_by n s x xs true h a b = (a.0, b)
above_by n s x xs false h a b = (h, a)

above_put : (n : ℕ) (s : IndexEntry) (entries : List IndexEntry) → n < s.id → AreAbove n entries → AreAbove n (put s entries)
above_put n s [] h a = (h, tt)
above_put n s (x ∷ xs) h a = above_by n s x xs (nat_lt x.id s.id) h a (above_put n s xs h a.1)

above_trans : (m n : ℕ) (entries : List IndexEntry) → m < n → AreAbove n entries → AreAbove m entries
above_trans m n [] h a = tt
above_trans m n (s ∷ ss) h a = (omega (arith, a.0), above_trans m n ss h a.1)

rising_by : (s x : IndexEntry) (xs : List IndexEntry) → (x.id ≡ s.id) ⊎ ((x.id < s.id) ⊎ (s.id < x.id)) → AreRising (x ∷ xs)
    → listed_place s.id (x ∷ xs) ≡ None → (listed_place s.id xs ≡ None → AreRising (put s xs)) → AreRising (cond (nat_lt x.id s.id) (x ∷ put s xs) (s ∷ x ∷ xs))
rising_by s x xs (inl same) r none f =
    let t : x.id == s.id ≡ true = grind (arith, nat_tests) in absurd (cc (rw t at none))
rising_by s x xs (inr (inl less)) r none f =
    let t : x.id == s.id ≡ false = grind (arith, nat_tests) in
    let u : nat_lt x.id s.id ≡ true = grind (arith, nat_tests) in
    rw u (above_put x.id s xs less r.0, f (rw t at none))
rising_by s x xs (inr (inr more)) r none f =
    let u : nat_lt x.id s.id ≡ false = grind (arith, nat_tests) in
    rw u ((more, above_trans s.id x.id xs more r.0), r)

rising_put : (s : IndexEntry) (entries : List IndexEntry) → AreRising entries → listed_place s.id entries ≡ None → AreRising (put s entries)
rising_put s [] r none = (tt, tt)
rising_put s (x ∷ xs) r none = rising_by s x xs (cases_order x.id s.id) r none (λ e. rising_put s xs r.1 e)

known_by : {N : Type 0} (id : ℕ) (e : ℕ × N) (older : List (ℕ × N)) (t : Bool) → is_some (place_of id (ids older)) ≡ knows id older
    → is_some (cond t (Some (length (ids older))) (place_of id (ids older))) ≡ is_some (cond t (Some e.1) (find id older))
known_by id e older true h = refl
known_by id e older false h = h

-- an id has a place exactly where it has a node
pub known_place : {N : Type 0} (id : ℕ) (nodes : List (ℕ × N)) → is_some (place_of id (ids nodes)) ≡ knows id nodes
known_place id [] = refl
known_place id (e ∷ older) = known_by id e older (e.0 == id) (known_place id older)

none_of : {A : Type 0} (o : Option A) → is_some o ≡ false → o ≡ None
none_of None h = refl
none_of (Some x) h = cc

-- the node of an id stands at its place in the order of addition
pub record IsAt {N : Type 0} (id : ℕ) (nodes : List (ℕ × N)) (p : ℕ) (e : ℕ × N) : Type 0 where
  pub inside : p < length nodes
  pub read : slice_get (reverse nodes) p ≡ Some e
  pub found : find id nodes ≡ Some e.1
  pub named : e.0 ≡ id

get_end : {A : Type 0} (xs : List A) (y : A) → slice_get (xs ++ y ∷ []) (length xs) ≡ Some y
get_end [] y = refl
get_end (x ∷ xs) y = get_end xs y

get_front : {A : Type 0} (xs ys : List A) (k : ℕ) → k < length xs → slice_get (xs ++ ys) k ≡ slice_get xs k
get_front [] ys k h = absurd (omega arith)
get_front (x ∷ xs) ys zero h = refl
get_front (x ∷ xs) ys (suc k) h = get_front xs ys k (omega arith)

at_by : {N : Type 0} (id : ℕ) (e : ℕ × N) (older : List (ℕ × N)) (p : ℕ) (t : Bool) → e.0 == id ≡ t
    → cond t (Some (length (ids older))) (place_of id (ids older)) ≡ Some p
    → (place_of id (ids older) ≡ Some p → (f : ℕ × N) × IsAt id older p f) → (f : ℕ × N) × IsAt id (e ∷ older) p f
at_by id e older p true h k f =
    let l : length (ids older) ≡ length (reverse older) = length-map older (λ g. g.0) ∙ sym (length-reverse older) in
    let q : p ≡ length (reverse older) = cc in (
      e,
      record {
        inside = omega (arith, length-reverse older);
        read = rw (reverse-append (e ∷ []) older, q) (get_end (reverse older) e);
        found = rw h refl;
        named = grind (arith, nat_tests);
      },
    )
at_by id e older p false h k f =
    let g = f k in
    let i = g.1.inside in (
      g.0,
      record {
        inside = omega (arith, i);
        read = rw (reverse-append (e ∷ []) older) (get_front (reverse older) (e ∷ []) p (omega (arith, i, length-reverse older)) ∙ g.1.read);
        found = rw h (g.1.found);
        named = g.1.named;
      },
    )

pub is_at : {N : Type 0} (id : ℕ) (nodes : List (ℕ × N)) (p : ℕ) → place_of id (ids nodes) ≡ Some p → (f : ℕ × N) × IsAt id nodes p f
is_at id [] p h = cc
is_at id (e ∷ older) p h = at_by id e older p (e.0 == id) refl h (λ k. is_at id older p k)

pub some_is : {A : Type 0} (x y : A) → Some x ≡ Some y → x ≡ y
some_is x y h = cc

-- and a node that stands at a place is the one of its id
module _ {N : Type 0} (id : ℕ) (e : ℕ × N) (older : List (ℕ × N)) (p : ℕ) (n : N) where
  seen_older : (t : Bool) → e.0 == id ≡ t → knows e.0 older ≡ false → IsEntryOf id older p n → IsEntryOf id (e ∷ older) p n
  seen_older true h fresh i =
      let same : e.0 ≡ id = grind (arith, nat_tests) in
      let known : knows id older ≡ true = ap is_some i.node in
      absurd (cc (sym known ∙ (ap (λ (k : ℕ). knows k older) (sym same) ∙ fresh)))
  seen_older false h fresh i = record {
    place = rw h i.place;
    inside = omega (arith, i.inside);
    node = rw h i.node;
  }

  seen_newest : p ≡ length older → e ≡ (id, n) → IsEntryOf id (e ∷ older) p n
  seen_newest here is =
      let t : e.0 == id ≡ true = let same : e.0 ≡ id = ap (λ f. f.0) is in grind (arith, nat_tests) in
      let len : length (ids older) ≡ p = length-map older (λ g. g.0) ∙ sym here in
      record {
        place = rw t (ap Some len);
        inside = omega (arith, here);
        node = rw t (ap (λ f. Some f.1) is);
      }

seen_by : {N : Type 0} (id : ℕ) (e : ℕ × N) (older : List (ℕ × N)) (p : ℕ) (n : N) → AreDistinctIds (e ∷ older) → (p ≡ length older) ⊎ ((p < length older) ⊎ (length older < p))
    → slice_get (reverse older ++ e ∷ []) p ≡ Some (id, n) → (slice_get (reverse older) p ≡ Some (id, n) → IsEntryOf id older p n) → IsEntryOf id (e ∷ older) p n
seen_by id e older p n d (inl here) h f =
    let end : slice_get (reverse older ++ e ∷ []) p ≡ Some e = ap (slice_get (reverse older ++ e ∷ [])) (here ∙ sym (length-reverse older)) ∙ get_end (reverse older) e in
    seen_newest id e older p n here (some_is e (id, n) (sym end ∙ h))
seen_by id e older p n d (inr (inl lt)) h f =
    seen_older id e older p n (e.0 == id) refl d.0 (f (sym (get_front (reverse older) (e ∷ []) p (omega (arith, lt, length-reverse older))) ∙ h))
seen_by id e older p n d (inr (inr gt)) h f =
    absurd (cc (sym (read_past (reverse older ++ e ∷ []) p (omega (arith, gt, length-reverse older, length-append (reverse older) (e ∷ [])))) ∙ h))

pub seen_entry : {N : Type 0} (id : ℕ) (nodes : List (ℕ × N)) (p : ℕ) (n : N) → AreDistinctIds nodes → slice_get (reverse nodes) p ≡ Some (id, n) → IsEntryOf id nodes p n
seen_entry id [] p n d h = absurd (cc h)
seen_entry id (e ∷ older) p n d h = seen_by id e older p n d (cases_order p (length older)) (sym (ap (λ l. slice_get l p) (reverse-append (e ∷ []) older)) ∙ h) (λ k. seen_entry id older p n d.1 k)

pub entry_seen : {N : Type 0} (id : ℕ) (items all : List (ℕ × N)) (p : ℕ) (node : ℕ × N) → reverse items ≡ all → AreDistinctIds (reverse items) → slice_get items p ≡ Some node → node.0 ≡ id
    → IsEntryOf id all p node.1
entry_seen id items all p node is d read named =
    subst (λ l. IsEntryOf id l p node.1) is
    (seen_entry id (reverse items) p node.1 d (ap (λ l. slice_get l p) (reverse-reverse items) ∙ (read ∙ ap (λ (k : ℕ). Some (k, node.1)) named)))

pub unknown_place : {N : Type 0} (id : ℕ) (nodes : List (ℕ × N)) → place_of id (ids nodes) ≡ None → find id nodes ≡ None
unknown_place id nodes h = none_of (find id nodes) (sym (known_place id nodes) ∙ ap is_some h)

-- another node at the place of an id
changed_by : {N : Type 0} (id : ℕ) (n : N) (e : ℕ × N) (older : List (ℕ × N)) (p : ℕ) (t : Bool) → e.0 == id ≡ t
    → cond t (Some (length (ids older))) (place_of id (ids older)) ≡ Some p
    → (place_of id (ids older) ≡ Some p → reverse (set (reverse older) p (id, n)) ≡ with_node_changed id (λ _. n) older)
    → reverse (set (reverse older ++ e ∷ []) p (id, n)) ≡ cond t ((e.0, n) ∷ older) (e ∷ with_node_changed id (λ _. n) older)
changed_by id n e older p true h k f =
    let l : length (ids older) ≡ length (reverse older) = length-map older (λ g. g.0) ∙ sym (length-reverse older) in
    let q : p ≡ length (reverse older) = cc in
    let same : e.0 ≡ id = grind (arith, nat_tests) in
    rw (set_at (reverse older) e [] (id, n) p (sym q), reverse-append (reverse older) ((id, n) ∷ []), reverse-reverse older, same) refl
changed_by id n e older p false h k f =
    let g = is_at id older p k in
    let i = g.1.inside in
    rw (set-append_left (reverse older) (e ∷ []) p (id, n) (omega (arith, i, length-reverse older)), reverse-append (set (reverse older) p (id, n)) (e ∷ []))
    (ap (λ l. e ∷ l) (f k))

pub set_changed : {N : Type 0} (id : ℕ) (n : N) (nodes : List (ℕ × N)) (p : ℕ) → place_of id (ids nodes) ≡ Some p
    → reverse (set (reverse nodes) p (id, n)) ≡ with_node_changed id (λ _. n) nodes
set_changed id n [] p h = cc
set_changed id n (e ∷ older) p h =
    rw (reverse-append (e ∷ []) older) (changed_by id n e older p (e.0 == id) refl h (λ k. set_changed id n older p k))

-- a change keeps the ids
ids_by : {N : Type 0} (id : ℕ) (f : N → N) (e : ℕ × N) (older : List (ℕ × N)) (t : Bool) → ids (with_node_changed id f older) ≡ ids older
    → ids (cond t ((e.0, f e.1) ∷ older) (e ∷ with_node_changed id f older)) ≡ e.0 ∷ ids older
ids_by id f e older true h = refl
ids_by id f e older false h = ap (λ l. e.0 ∷ l) h

pub ids_changed : {N : Type 0} (id : ℕ) (f : N → N) (nodes : List (ℕ × N)) → ids (with_node_changed id f nodes) ≡ ids nodes
ids_changed id f [] = refl
ids_changed id f (e ∷ older) = ids_by id f e older (e.0 == id) (ids_changed id f older)

pub knows_changed : {N : Type 0} (id : ℕ) (f : N → N) (nodes : List (ℕ × N)) (k : ℕ) → knows k (with_node_changed id f nodes) ≡ knows k nodes
knows_changed id f nodes k =
    sym (known_place k (with_node_changed id f nodes)) ∙ (ap (λ l. is_some (place_of k l)) (ids_changed id f nodes) ∙ known_place k nodes)

distinct_by : {N : Type 0} (id : ℕ) (f : N → N) (e : ℕ × N) (older : List (ℕ × N)) (t : Bool) → AreDistinctIds (e ∷ older) → AreDistinctIds (with_node_changed id f older)
    → AreDistinctIds (cond t ((e.0, f e.1) ∷ older) (e ∷ with_node_changed id f older))
distinct_by id f e older true d h = d
distinct_by id f e older false d h = (knows_changed id f older e.0 ∙ d.0, h)

pub distinct_changed : {N : Type 0} (id : ℕ) (f : N → N) (nodes : List (ℕ × N)) → AreDistinctIds nodes → AreDistinctIds (with_node_changed id f nodes)
distinct_changed id f [] d = tt
distinct_changed id f (e ∷ older) d = distinct_by id f e older (e.0 == id) d (distinct_changed id f older d.1)

inside_some : {A : Type 0} {x y : A} → Some x ≡ Some y → x ≡ y
inside_some h = cc

-- the node of an id in a list in order of addition
pub record IsEntry {N : Type 0} (id : ℕ) (items : List (ℕ × N)) (p : ℕ) (e : ℕ × N) : Type 0 where
  pub inside : p < length items
  pub read : (d : ℕ × N) → get_or items p d ≡ e
  pub found : find id (reverse items) ≡ Some e.1

entry_by : {N : Type 0} (id : ℕ) (items : List (ℕ × N)) (p : ℕ) (f : (e : ℕ × N) × IsAt id (reverse items) p e) → IsEntry id items p f.0
entry_by id items p f =
    let i = f.1.inside in
    let k : p < length items = omega (arith, i, length-reverse items) in
    record {
      inside = k;
      read = λ d. inside_some (sym (read_at items p d k) ∙ (ap (λ l. slice_get l p) (sym (reverse-reverse items)) ∙ f.1.read));
      found = f.1.found;
    }

pub entry_of : {N : Type 0} (id : ℕ) (items : List (ℕ × N)) (entries : List IndexEntry) (p : ℕ) → IsIndex (ids (reverse items)) entries → listed_place id entries ≡ Some p
    → (e : ℕ × N) × IsEntry id items p e
entry_of id items entries p i h =
    let f = is_at id (reverse items) p (sym (entry_index id (ids (reverse items))) ∙ (ap (listed_place id) (sym i.all) ∙ h)) in
    (f.0, entry_by id items p f)

pub unknown_entry : {N : Type 0} (id : ℕ) (items : List (ℕ × N)) (entries : List IndexEntry) → IsIndex (ids (reverse items)) entries → listed_place id entries ≡ None
    → find id (reverse items) ≡ None
unknown_entry id items entries i h = unknown_place id (reverse items) (sym (entry_index id (ids (reverse items))) ∙ (ap (listed_place id) (sym i.all) ∙ h))

-- another node under an id
pub set_entry : {N : Type 0} (id : ℕ) (n : N) (items : List (ℕ × N)) (entries : List IndexEntry) (p : ℕ) → IsIndex (ids (reverse items)) entries → listed_place id entries ≡ Some p
    → reverse (set items p (id, n)) ≡ with_node_changed id (λ _. n) (reverse items)
set_entry id n items entries p i h =
    ap (λ l. reverse (set l p (id, n))) (sym (reverse-reverse items))
    ∙ set_changed id n (reverse items) p (sym (entry_index id (ids (reverse items))) ∙ (ap (listed_place id) (sym i.all) ∙ h))

-- one more node
pub added : {N : Type 0} (id : ℕ) (n : N) (items : List (ℕ × N)) (entries : List IndexEntry) (items' : List (ℕ × N)) (entries' : List IndexEntry)
    → AreDistinctIds (reverse items) → IsIndex (ids (reverse items)) entries → knows id (reverse items) ≡ false
    → items' ≡ items ++ (id, n) ∷ [] → entries' ≡ insert entries (front id entries) (record { id = id; place = length items })
    → AreDistinctIds (reverse items') × IsIndex (ids (reverse items')) entries'
added id n items entries items' entries' d i fresh e f =
    let r : reverse items' ≡ (id, n) ∷ reverse items = ap reverse e ∙ reverse-append items ((id, n) ∷ []) in
    let l : length (ids (reverse items)) ≡ length items = length-map (reverse items) (λ g. g.0) ∙ length-reverse items in
    let s : IndexEntry = record { id = id; place = length items } in
    let a : entries' ≡ put s entries = f ∙ insert_put s entries in
    let none : listed_place id entries ≡ None =
    ap (listed_place id) i.all ∙ (entry_index id (ids (reverse items)) ∙ none_of (place_of id (ids (reverse items))) (known_place id (reverse items) ∙ fresh)) in
    rw r (
      (fresh, d),
      record {
        all = a ∙ rw (i.all, l) refl;
        rising = rw a (rising_put s entries i.rising none);
      },
    )

-- the entry that the index leads to
pub entry_is : {N : Type 0} (id : ℕ) (items nodes : List (ℕ × N)) (entries : List IndexEntry) (p : ℕ) (n : ℕ × N) → reverse items ≡ nodes → IsIndex (ids (reverse items)) entries
    → listed_place id entries ≡ Some p → n ≡ get_or items p n → IsEntryOf id nodes p n.1
entry_is id items nodes entries p n e i h r =
    let f = entry_of id items entries p i h in
    let same : n ≡ f.0 = r ∙ f.1.read n in
    let k = f.1.inside in
    record {
      place = ap (λ l. place_of id (ids l)) (sym e) ∙ (sym (entry_index id (ids (reverse items))) ∙ (ap (listed_place id) (sym i.all) ∙ h));
      inside = subst (λ l. p < length l) e (omega (arith, k, length-reverse items));
      node = ap (find id) (sym e) ∙ (f.1.found ∙ ap (λ m. Some m.1) (sym same));
    }
