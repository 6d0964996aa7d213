-- What a start and the end of one do to the lists of a queue.
use Rattle.std.proofs.Common.{◌≡◌, ◌⊎◌, inl, inr, ℕ, ◌+◌, ◌-◌, ◌≤◌, suc, min, Bool, true, false, cond, not, ◌&&◌, Option, Some, None, List, [], ◌∷◌, ◌++◌, length, filter, map, take, drop, refl, sym, ◌∙◌, ap, subst, arith, append_assoc, append-nil, length-append}
use Rattle.std.specs.Prelude.{filter_map}
use Rattle.std.specs.List.{list_all, cons_option}
use Rattle.std.specs.List.Sorted.{IsPermutation, IsPartitionedBy}
use Rattle.std.proofs.lemmas.List.{take-append-drop, length-take, length-map, map-append, take_min}
use Rattle.std.proofs.lemmas.List.Elements.{filter-append}
use Rattle.std.proofs.lemmas.List.Sorted.{IsPermutation-trans, IsPermutation-sym, IsPermutation-map, IsPermutation-append_right, IsPermutation-middle}
use Rattle.geom.specs.declared.tile.TileKey.{TileKey}
use Rattle.geom.specs.KeyLists.{same_key, has_key}
use Rattle.geom.proofs.KeyLists.{one_key, same_from}
use Rattle.tile_priority.specs.declared.rank.Rank.{Rank}
use Rattle.tile_priority.specs.Ranks.{rank_cmp}
use Rattle.tile_priority.specs.Tiles.{Tile}
use Rattle.tile_priority.specs.Ordered.{In, SameMembers, IsInOrder, with_member}
use Rattle.tile_priority.specs.Choice.{used, evictable_key, evicted}
use Rattle.tile_priority.specs.Alike.{Alike, is_of, is_among, tile_rank, choice_after_start, finished}
use Rattle.tile_priority.proofs.InOrder.{in_with, with_has, with_keeps, with_order, map_in}
use Rattle.tile_priority.proofs.Members.{in_append, in_append_left, in_append_right, same_itself}
use Rattle.tile_priority.proofs.RankOrders.{rank_order}
use Rattle.tile_queue.specs.declared.evictable.Evictable.{Evictable}
use Rattle.tile_queue.specs.declared.evictable.Evictable.TheVariants.{Unranked, Ranked}
use Rattle.tile_queue.specs.Queues.{rank_key, tile_key, IsNew, MayStartWith}
use Rattle.tile_queue.specs.inner.Orders.{times, standing, stays, IsQueue, choice_of}
use Rattle.tile_queue.specs.inner.Evictables.{tile_of, key_of, eviction_cmp, is_worse_than, again, wanted_again}
use Rattle.tile_queue.proofs.Places.{order_filter, order_drop, at_in}
use Rattle.tile_queue.proofs.Times.{one_if, times_cons, times_append, times_in, times_none, times_filter, times_parts, times_with, has_some}
use Rattle.tile_queue.proofs.Sorted.{permutation_members, permutation_many, with_new}
use Rattle.tile_queue.proofs.Forgotten.{none_out}
use Rattle.tile_queue.proofs.Evicting.{all_again_order, all_again_few, length_with}
use Rattle.tile_queue.proofs.Picking.{keys_of_tiles, key_of_tile, given_keys, evicted_is}
use Rattle.tile_queue.proofs.EvictionOrders.{eviction_order, worse_first}

-- all or none of a list pass

all_in : {X : Type 0} (p : X → Bool) (xs : List X) → ((x : X) → In x xs → p x ≡ true) → filter p xs ≡ xs
all_in p [] f = refl
all_in p (x ∷ xs) f = let e : p x ≡ true = f x (inl refl) in rw e (ap (λ zs. x ∷ zs) (all_in p xs (λ y i. f y (inr i))))

none_in : {X : Type 0} (p : X → Bool) (xs : List X) → ((x : X) → In x xs → p x ≡ false) → filter p xs ≡ []
none_in p [] f = refl
none_in p (x ∷ xs) f = let e : p x ≡ false = f x (inl refl) in rw e (none_in p xs (λ y i. f y (inr i)))

none_left : {X : Type 0} (p : X → Bool) (xs : List X) → ((x : X) → In x xs → p x ≡ true) → filter (λ x. not (p x)) xs ≡ []
none_left p xs f = none_in (λ x. not (p x)) xs (λ x i. ap not (f x i))

-- the ranks that are wanted again

-- a rank stands among those wanted again where it stood before, or is that of one of the evictable tiles
again_there : (v : Evictable) (rs : List Rank) (r : Rank) → In r (again v rs) → In r rs ⊎ In r (cons_option (tile_rank (tile_of v)) [])
again_there (Unranked k) rs r i = inl i
again_there (Ranked s) rs r i = elim (in_with rank_cmp s.0 r rs i) [ inl e ↦ inr (inl e) | inr j ↦ inl j ]

again_keeps : (v : Evictable) (rs : List Rank) (r : Rank) → In r rs → In r (again v rs)
again_keeps (Unranked k) rs r i = i
again_keeps (Ranked s) rs r i = with_keeps rank_cmp s.0 r rs i

again_has : (v : Evictable) (rs : List Rank) (r : Rank) → In r (cons_option (tile_rank (tile_of v)) []) → In r (again v rs)
again_has (Unranked k) rs r i = absurd i
again_has (Ranked s) rs r (inl e) = subst (λ z. In z (with_member rank_cmp s.0 rs)) (sym e) (with_has rank_cmp rank_order s.0 rs)
again_has (Ranked s) rs r (inr i) = absurd i

in_cons_option : (o : Option Rank) (r : Rank) (rs : List Rank) → In r (cons_option o rs) → In r (cons_option o []) ⊎ In r rs
in_cons_option None r rs i = inr i
in_cons_option (Some s) r rs (inl e) = inl (inl e)
in_cons_option (Some s) r rs (inr i) = inr i

cons_option_one : (o : Option Rank) (r : Rank) (rs : List Rank) → In r (cons_option o []) → In r (cons_option o rs)
cons_option_one None r rs i = absurd i
cons_option_one (Some s) r rs (inl e) = inl e
cons_option_one (Some s) r rs (inr i) = absurd i

cons_option_more : (o : Option Rank) (r : Rank) (rs : List Rank) → In r rs → In r (cons_option o rs)
cons_option_more None r rs i = i
cons_option_more (Some s) r rs i = inr i

all_there : (vs : List Evictable) (rs : List Rank) (r : Rank) → In r (wanted_again vs rs) → In r (rs ++ filter_map tile_rank (map tile_of vs))
all_there [] rs r i = in_append_left r rs [] i
all_there (v ∷ vs) rs r i =
    elim (in_append r (again v rs) (filter_map tile_rank (map tile_of vs)) (all_there vs (again v rs) r i)) [
      | inl j ↦ elim (again_there v rs r j) [
        | inl k ↦ in_append_left r rs _ k
        | inr k ↦ in_append_right r rs _ (cons_option_one (tile_rank (tile_of v)) r (filter_map tile_rank (map tile_of vs)) k)
      ]
      | inr j ↦ in_append_right r rs _ (cons_option_more (tile_rank (tile_of v)) r (filter_map tile_rank (map tile_of vs)) j)
    ]

all_keeps : (vs : List Evictable) (rs : List Rank) (r : Rank) → In r rs → In r (wanted_again vs rs)
all_keeps [] rs r i = i
all_keeps (v ∷ vs) rs r i = all_keeps vs (again v rs) r (again_keeps v rs r i)

all_have : (vs : List Evictable) (rs : List Rank) (r : Rank) → In r (filter_map tile_rank (map tile_of vs)) → In r (wanted_again vs rs)
all_have [] rs r i = absurd i
all_have (v ∷ vs) rs r i =
    elim (in_cons_option (tile_rank (tile_of v)) r (filter_map tile_rank (map tile_of vs)) i) [
      | inl j ↦ all_keeps vs (again v rs) r (again_has v rs r j)
      | inr j ↦ all_have vs (again v rs) r j
    ]

all_back : (vs : List Evictable) (rs : List Rank) (r : Rank) → In r (rs ++ filter_map tile_rank (map tile_of vs)) → In r (wanted_again vs rs)
all_back vs rs r i = elim (in_append r rs (filter_map tile_rank (map tile_of vs)) i) [ inl j ↦ all_keeps vs rs r j | inr j ↦ all_have vs rs r j ]

pub again_members : (vs : List Evictable) (rs : List Rank) → SameMembers (wanted_again vs rs) (rs ++ filter_map tile_rank (map tile_of vs))
again_members vs rs = record { there = all_there vs rs; back = all_back vs rs }

-- how often keys stand among them

times_again : (q : TileKey) (v : Evictable) (rs : List Rank) → times q (map rank_key (again v rs)) ≤ one_if (same_key (key_of v) q) + times q (map rank_key rs)
times_again q (Unranked k) rs = omega arith
times_again q (Ranked r) rs = times_with rank_key q rank_cmp r.0 rs

times_all_again : (q : TileKey) (vs : List Evictable) (rs : List Rank) → times q (map rank_key (wanted_again vs rs)) ≤ times q (map rank_key rs) + times q (map key_of vs)
times_all_again q [] rs = omega arith
times_all_again q (v ∷ vs) rs =
    let a = times_all_again q vs (again v rs) in
    let b = times_again q v rs in
    let d = times_cons q (key_of v) (map key_of vs) in
    omega arith

-- which keys are among those evicted

has_in : (q : TileKey) (ks : List TileKey) → In q ks → has_key ks q ≡ true
has_in q ks i = by_test (has_key ks q) refl
  where
    by_test : (t : Bool) → has_key ks q ≡ t → t ≡ true
    by_test true h = refl
    by_test false h = let z = times_none q ks h in let o = times_in q ks i in absurd (omega arith)

has_not : (q : TileKey) (ks : List TileKey) → (1 ≤ times q ks → ⊥) → has_key ks q ≡ false
has_not q ks f = by_test (has_key ks q) refl
  where
    by_test : (t : Bool) → has_key ks q ≡ t → t ≡ false
    by_test true h = absurd (f (has_some q ks h))
    by_test false h = refl

in_keys : (t : Tile) (vs : List Evictable) → In t (map tile_of vs) → In t.key (map key_of vs)
in_keys t vs i = subst (In t.key) (keys_of_tiles vs) (map_in tile_key t (map tile_of vs) i)

gone_among : (vs : List Evictable) (t : Tile) → In t (map tile_of vs) → is_among (map key_of vs) t ≡ true
gone_among vs t i = has_in t.key (map key_of vs) (in_keys t vs i)

module _ (wanted : List Rank) (staying : List Tile) (vs : List Evictable) (once : (q : TileKey) → standing q wanted staying vs ≤ 1) (n : ℕ) where
  staying_not_among : (t : Tile) → In t staying → is_among (map key_of (take n vs)) t ≡ false
  staying_not_among t i =
      has_not t.key (map key_of (take n vs)) (λ h.
      let a = times_in t.key (map tile_key staying) (map_in tile_key t staying i) in
      let b = times_parts key_of t.key n vs in
      let o = once t.key in
      omega arith)

  left_not_among : (t : Tile) → In t (map tile_of (drop n vs)) → is_among (map key_of (take n vs)) t ≡ false
  left_not_among t i =
      has_not t.key (map key_of (take n vs)) (λ h.
      let a = times_in t.key (map key_of (drop n vs)) (in_keys t (drop n vs) i) in
      let b = times_parts key_of t.key n vs in
      let o = once t.key in
      omega arith)

  abbrev gone : List TileKey
  gone = map key_of (take n vs)

  tiles_parts : map tile_of vs ≡ map tile_of (take n vs) ++ map tile_of (drop n vs)
  tiles_parts = ap (map tile_of) (sym (take-append-drop n vs)) ∙ map-append tile_of (take n vs) (drop n vs)

  -- the ready tiles that are evicted, and those that stay
  gone_ready : filter (is_among gone) (staying ++ map tile_of vs) ≡ map tile_of (take n vs)
  gone_ready =
      filter-append (is_among gone) staying (map tile_of vs)
      ∙ ap (λ ts. ts ++ filter (is_among gone) (map tile_of vs)) (none_in (is_among gone) staying staying_not_among)
      ∙ ap (filter (is_among gone)) tiles_parts
      ∙ filter-append (is_among gone) (map tile_of (take n vs)) (map tile_of (drop n vs))
      ∙ ap (λ ts. ts ++ filter (is_among gone) (map tile_of (drop n vs))) (all_in (is_among gone) (map tile_of (take n vs)) (gone_among (take n vs)))
      ∙ ap (λ ts. map tile_of (take n vs) ++ ts) (none_in (is_among gone) (map tile_of (drop n vs)) left_not_among)
      ∙ append-nil (map tile_of (take n vs))

  left_ready : filter (λ t. not (is_among gone t)) (staying ++ map tile_of vs) ≡ staying ++ map tile_of (drop n vs)
  left_ready =
      filter-append (λ t. not (is_among gone t)) staying (map tile_of vs)
      ∙ ap (λ ts. ts ++ filter (λ t. not (is_among gone t)) (map tile_of vs)) (none_out (is_among gone) staying staying_not_among)
      ∙ ap (λ ts. staying ++ filter (λ t. not (is_among gone t)) ts) tiles_parts
      ∙ ap (λ ts. staying ++ ts) (filter-append (λ t. not (is_among gone t)) (map tile_of (take n vs)) (map tile_of (drop n vs)))
      ∙ ap (λ ts. staying ++ (ts ++ filter (λ t. not (is_among gone t)) (map tile_of (drop n vs)))) (none_left (is_among gone) (map tile_of (take n vs)) (gone_among (take n vs)))
      ∙ ap (λ ts. staying ++ ts) (none_out (is_among gone) (map tile_of (drop n vs)) left_not_among)

  pub start_alike : (in_flight budget : ℕ) (q : TileKey) (rest : List Rank) → rest ≡ filter (λ r. not (is_of q r)) wanted
      → Alike (choice_of (wanted_again (take n vs) rest) staying (drop n vs) (in_flight + 1) budget) (choice_after_start (choice_of wanted staying vs in_flight budget) q gone)
  start_alike in_flight budget q rest e = record {
    wanted = subst (λ rs. SameMembers (wanted_again (take n vs) rest) rs)
        (ap (λ ts. rest ++ filter_map tile_rank ts) (sym gone_ready) ∙ ap (λ rs. rs ++ filter_map tile_rank (filter (is_among gone) (staying ++ map tile_of vs))) e)
        (again_members (take n vs) rest);
    ready = subst (SameMembers (staying ++ map tile_of (drop n vs))) (sym left_ready) (same_itself (staying ++ map tile_of (drop n vs)));
    as_many = λ f. ap (λ ts. length (filter f ts)) (sym left_ready);
    in_flight = refl;
    budget = refl;
  }

-- the lists after a start

no_more : (p : Rank → Bool) (rs : List Rank) → length (filter p rs) ≤ length rs
no_more p [] = omega arith
no_more p (s ∷ rs) = by_test (p s) (no_more p rs)
  where
    by_test : (t : Bool) → length (filter p rs) ≤ length rs → length (cond t (s ∷ filter p rs) (filter p rs)) ≤ suc (length rs)
    by_test true l = omega arith
    by_test false l = omega arith

one_fewer : (q : TileKey) (rs : List Rank) (r : Rank) → In r rs → is_of q r ≡ true → length (filter (λ r. not (is_of q r)) rs) + 1 ≤ length rs
one_fewer q [] r i e = absurd i
one_fewer q (s ∷ rs) r (inl d) e =
    let t : is_of q s ≡ true = ap (is_of q) (sym d) ∙ e in
    let l = no_more (λ r. not (is_of q r)) rs in
    rw t (omega arith)
one_fewer q (s ∷ rs) r (inr i) e = by_test (is_of q s) (one_fewer q rs r i e)
  where
    by_test : (t : Bool) → length (filter (λ r. not (is_of q r)) rs) + 1 ≤ length rs
        → length (cond (not t) (s ∷ filter (λ r. not (is_of q r)) rs) (filter (λ r. not (is_of q r)) rs)) + 1 ≤ suc (length rs)
    by_test true l = omega arith
    by_test false l = omega arith

length_parts : {X : Type 0} (n : ℕ) (xs : List X) → length (take n xs) + length (drop n xs) ≡ length xs
length_parts n xs = sym (length-append (take n xs) (drop n xs)) ∙ ap length (take-append-drop n xs)

-- how many stand there after a start, no more than before
pub start_few : (wanted rest : List Rank) (vs : List Evictable) (n : ℕ) (q : TileKey) (r : Rank) → rest ≡ filter (λ r. not (is_of q r)) wanted → In r wanted → is_of q r ≡ true
    → (length (wanted_again (take n vs) rest) + length (drop n vs)) + 1 ≤ length wanted + length vs
start_few wanted rest vs n q r e i t =
    let a = all_again_few (take n vs) rest in
    let b = length_parts n vs in
    let d : length rest + 1 ≤ length wanted = subst (λ (rs : List Rank). length rs + 1 ≤ length wanted) (sym e) (one_fewer q wanted r i t) in
    omega arith

pub start_queue : (wanted rest : List Rank) (staying : List Tile) (vs : List Evictable) (f a b d a' d' n : ℕ) (q : TileKey) (r : Rank)
    → IsQueue wanted staying vs f a b d → rest ≡ filter (λ r. not (is_of q r)) wanted → In r wanted → is_of q r ≡ true → a ≤ a' → d ≤ d'
    → IsQueue (wanted_again (take n vs) rest) staying (drop n vs) (f + 1) a' b d'
start_queue wanted rest staying vs f a b d a' d' n q r s e i t la ld =
    let few : (length (wanted_again (take n vs) rest) + length (drop n vs)) + 1 ≤ length wanted + length vs = start_few wanted rest vs n q r e i t in
    record {
      best_first = all_again_order (take n vs) rest (subst (IsInOrder rank_cmp) (sym e) (order_filter rank_cmp (λ r. not (is_of q r)) wanted s.best_first));
      worst_first = order_drop eviction_cmp n vs s.worst_first;
      all_stay = s.all_stay;
      once = λ k.
          let x = times_all_again k (take n vs) rest in
          let y = times_parts key_of k n vs in
          let z : times k (map rank_key rest) ≤ times k (map rank_key wanted) = subst (λ (rs : List Rank). times k (map rank_key rs) ≤ times k (map rank_key wanted)) (sym e) (times_filter rank_key k (λ r. not (is_of q r)) wanted) in
          let o = s.once k in
          omega arith;
      fits_ranks = let o = s.fits_ranks in omega arith;
      fits_kept = let o = s.fits_kept in omega arith;
      fits_evictables = let o = s.fits_evictables in omega arith;
      few = let o = s.few in omega arith;
    }

-- the evicted are the first of the evictable tiles

pub prefix_passes : {X : Type 0} (p : X → Bool) (xs : List X) → IsPartitionedBy p xs → take (length (filter p xs)) xs ≡ filter p xs
prefix_passes p [] h = refl
prefix_passes p (x ∷ xs) h = by_test (p x) refl (prefix_passes p xs (λ i j d l u. h (suc i) (suc j) d (omega arith) (omega arith)))
  where
    by_test : (t : Bool) → p x ≡ t → take (length (filter p xs)) xs ≡ filter p xs → take (length (cond t (x ∷ filter p xs) (filter p xs))) (x ∷ xs) ≡ cond t (x ∷ filter p xs) (filter p xs)
    by_test true e r = ap (λ zs. x ∷ zs) r
    by_test false e r = rw (none_in p xs (λ y i. later y i (p y) refl)) refl
      where
        later : (y : _) → In y xs → (t : Bool) → p y ≡ t → t ≡ false
        later y i false k = refl
        later y i true k =
            let (j, l, f) = at_in y xs i in
            let g : p x ≡ true = h 0 (suc j) x (omega arith) (omega arith) (ap p (f x) ∙ k) in
            absurd cc

pub gone_are : (wanted : List Rank) (staying : List Tile) (vs : List Evictable) (f budget : ℕ) → list_all stays staying ≡ true → IsInOrder eviction_cmp vs → (r : Rank) (ks : List TileKey)
    → ks ≡ map evictable_key (evicted (choice_of wanted staying vs f budget) r) → ks ≡ map key_of (take (length ks) vs)
gone_are wanted staying vs f budget p o r ks e =
    let n : ℕ = length (filter (is_worse_than r.bin) vs) in
    let over : ℕ = (used (choice_of wanted staying vs f budget) + 1) - budget in
    let m : ℕ = min over n in
    let d : ks ≡ map key_of (take m vs) =
    e ∙ ap (map evictable_key) (evicted_is wanted staying vs f budget p o r n over (prefix_passes (is_worse_than r.bin) vs (worse_first r.bin vs o)) refl) ∙ given_keys (take m vs) in
    let l : length ks ≡ min m (length vs) = ap length d ∙ length-map (take m vs) key_of ∙ length-take m vs in
    d ∙ ap (map key_of) (sym (take_min m vs)) ∙ ap (λ k. map key_of (take k vs)) (sym l)

pub start_room : (wanted rest : List Rank) (staying : List Tile) (vs : List Evictable) (f a b d n : ℕ) (q : TileKey) (ks : List TileKey) → IsQueue wanted staying vs f a b d
    → rest ≡ filter (λ r. not (is_of q r)) wanted → ks ≡ map key_of (take (length ks) vs) → n ≡ length ks → length rest + n ≤ a
start_room wanted rest staying vs f a b d n q ks s e g l =
    let x : length rest ≤ length wanted = subst (λ (rs : List Rank). length rs ≤ length wanted) (sym e) (no_more (λ r. not (is_of q r)) wanted) in
    let y : length ks ≡ length (take (length ks) vs) = ap length g ∙ length-map (take (length ks) vs) key_of in
    let z = length_parts (length ks) vs in
    let o = s.fits_ranks in
    omega arith

-- what the lists are after a start, and what they represent
pub record IsStarted (wanted : List Rank) (staying : List Tile) (vs : List Evictable) (f budget a b d : ℕ) (q : TileKey) (ks : List TileKey) (wanted' : List Rank) (vs' : List Evictable) : Type 0 where
  pub queue : IsQueue wanted' staying vs' (f + 1) a b d
  pub alike : Alike (choice_of wanted' staying vs' (f + 1) budget) (choice_after_start (choice_of wanted staying vs f budget) q ks)

pub start_all : (wanted rest wanted' : List Rank) (staying : List Tile) (vs vs' : List Evictable) (f budget a b d a' d' n : ℕ) (q : TileKey) (ks : List TileKey)
    → IsQueue wanted staying vs f a b d → MayStartWith (choice_of wanted staying vs f budget) q ks
    → rest ≡ filter (λ r. not (is_of q r)) wanted → n ≡ length ks → vs' ≡ drop n vs → wanted' ≡ wanted_again (take n vs) rest → a ≤ a' → d ≤ d'
    → IsStarted wanted staying vs f budget a' b d' q ks wanted' vs'
start_all wanted rest wanted' staying vs vs' f budget a b d a' d' n q ks s m e l ev ew la ld =
    let g : ks ≡ map key_of (take (length ks) vs) = gone_are wanted staying vs f budget s.all_stay s.worst_first m.rank ks m.evicted in
    let h : ks ≡ map key_of (take n vs) = g ∙ ap (λ k. map key_of (take k vs)) (sym l) in
    let t : is_of q m.rank ≡ true = same_from m.rank.key q m.key in
    let x : IsQueue (wanted_again (take n vs) rest) staying (drop n vs) (f + 1) a' b d' = start_queue wanted rest staying vs f a b d a' d' n q m.rank s e m.wanted t la ld in
    let y : Alike (choice_of (wanted_again (take n vs) rest) staying (drop n vs) (f + 1) budget) (choice_after_start (choice_of wanted staying vs f budget) q (map key_of (take n vs))) = start_alike wanted staying vs s.once n f budget q rest e in
    record {
      queue = subst (λ (rs : List Rank). IsQueue rs staying vs' (f + 1) a' b d') (sym ew) (subst (λ (us : List Evictable). IsQueue (wanted_again (take n vs) rest) staying us (f + 1) a' b d') (sym ev) x);
      alike = subst (λ (rs : List Rank). Alike (choice_of rs staying vs' (f + 1) budget) (choice_after_start (choice_of wanted staying vs f budget) q ks)) (sym ew)
          (subst (λ (us : List Evictable). Alike (choice_of (wanted_again (take n vs) rest) staying us (f + 1) budget) (choice_after_start (choice_of wanted staying vs f budget) q ks)) (sym ev)
          (subst (λ (js : List TileKey). Alike (choice_of (wanted_again (take n vs) rest) staying (drop n vs) (f + 1) budget) (choice_after_start (choice_of wanted staying vs f budget) q js)) (sym h) y));
    }

-- the end of a start

stands_nowhere : (wanted : List Rank) (staying : List Tile) (vs : List Evictable) (f budget : ℕ) (k : TileKey) → IsNew (choice_of wanted staying vs f budget) k → standing k wanted staying vs ≡ 0
stands_nowhere wanted staying vs f budget k n =
    let a = times_none k (map rank_key wanted) n.not_wanted in
    let b : times k (map tile_key staying ++ map key_of vs) ≡ 0 =
    ap (times k) (ap (λ ks. map tile_key staying ++ ks) (sym (keys_of_tiles vs)) ∙ sym (map-append tile_key staying (map tile_of vs))) ∙ times_none k (map tile_key (staying ++ map tile_of vs)) n.not_ready in
    let e = times_append k (map tile_key staying) (map key_of vs) in
    omega arith

one_more : (k q : TileKey) (s : TileKey → ℕ) → s k ≡ 0 → s q ≤ 1 → one_if (same_key k q) + s q ≤ 1
one_more k q s z l = by_test (same_key k q) refl
  where
    by_test : (t : Bool) → same_key k q ≡ t → one_if t + s q ≤ 1
    by_test true e = let d : s q ≡ 0 = ap s (sym (one_key k q e)) ∙ z in omega arith
    by_test false e = omega arith

all_append : (ts : List Tile) (t : Tile) → list_all stays ts ≡ true → stays t ≡ true → list_all stays (ts ++ t ∷ []) ≡ true
all_append [] t h e = rw e refl
all_append (u ∷ us) t h e = by_pin (stays u) h (λ k. all_append us t k e)
  where
    by_pin : (p : Bool) → p && list_all stays us ≡ true → (list_all stays us ≡ true → list_all stays (us ++ t ∷ []) ≡ true) → p && list_all stays (us ++ t ∷ []) ≡ true
    by_pin true h f = f h
    by_pin false h f = h

pub finish_staying : (wanted : List Rank) (staying : List Tile) (vs : List Evictable) (f a b d b' budget : ℕ) (t : Tile) → IsQueue wanted staying vs f a b d
    → IsNew (choice_of wanted staying vs f budget) t.key → stays t ≡ true → 1 ≤ f → b ≤ b' → IsQueue wanted (staying ++ t ∷ []) vs (f - 1) a b' d
finish_staying wanted staying vs f a b d b' budget t s n e l lb =
    let g : length (staying ++ t ∷ []) ≡ length staying + 1 = length-append staying (t ∷ []) in
    record {
      best_first = s.best_first;
      worst_first = s.worst_first;
      all_stay = all_append staying t s.all_stay e;
      once = λ q.
          let x : times q (map tile_key (staying ++ t ∷ [])) ≡ times q (map tile_key staying) + times q (t.key ∷ []) = ap (times q) (map-append tile_key staying (t ∷ [])) ∙ times_append q (map tile_key staying) (t.key ∷ []) in
          let y = times_cons q t.key [] in
          let z = one_more t.key q (λ k. standing k wanted staying vs) (stands_nowhere wanted staying vs f budget t.key n) (s.once q) in
          omega arith;
      fits_ranks = let o = s.fits_ranks in omega arith;
      fits_kept = let o = s.fits_kept in omega arith;
      fits_evictables = let o = s.fits_evictables in omega arith;
      few = let o = s.few in omega arith;
    }

pub finish_evictable : (wanted : List Rank) (staying : List Tile) (vs : List Evictable) (f a b d d' budget : ℕ) (v : Evictable) → IsQueue wanted staying vs f a b d
    → IsNew (choice_of wanted staying vs f budget) (key_of v) → 1 ≤ f → d ≤ d' → IsQueue wanted staying (with_member eviction_cmp v vs) (f - 1) a b d'
finish_evictable wanted staying vs f a b d d' budget v s n l ld =
    let g = length_with eviction_cmp v vs in
    record {
      best_first = s.best_first;
      worst_first = with_order eviction_cmp eviction_order v vs s.worst_first;
      all_stay = s.all_stay;
      once = λ q.
          let x = times_with key_of q eviction_cmp v vs in
          let z = one_more (key_of v) q (λ k. standing k wanted staying vs) (stands_nowhere wanted staying vs f budget (key_of v) n) (s.once q) in
          omega arith;
      fits_ranks = let o = s.fits_ranks in omega arith;
      fits_kept = let o = s.fits_kept in omega arith;
      fits_evictables = let o = s.fits_evictables in omega arith;
      few = let o = s.few in omega arith;
    }

alike_by : (wanted : List Rank) (ts us : List Tile) (f g budget : ℕ) → IsPermutation ts us → f ≡ g
    → Alike (record { wanted = wanted; ready = ts; in_flight = f; budget = budget }) (record { wanted = wanted; ready = us; in_flight = g; budget = budget })
alike_by wanted ts us f g budget p e = record { wanted = same_itself wanted; ready = permutation_members ts us p; as_many = permutation_many ts us p; in_flight = e; budget = refl }

pub staying_alike : (wanted : List Rank) (staying : List Tile) (vs : List Evictable) (f budget : ℕ) (t : Tile)
    → Alike (choice_of wanted (staying ++ t ∷ []) vs (f - 1) budget) (finished (choice_of wanted staying vs f budget) (Some t))
staying_alike wanted staying vs f budget t =
    alike_by wanted ((staying ++ t ∷ []) ++ map tile_of vs) (t ∷ (staying ++ map tile_of vs)) (f - 1) (f - 1) budget
    (subst (λ ts. IsPermutation ts (t ∷ (staying ++ map tile_of vs))) (sym (append_assoc staying (t ∷ []) (map tile_of vs))) (IsPermutation-middle staying t (map tile_of vs))) refl

not_in : (v : Evictable) (vs : List Evictable) → times (key_of v) (map key_of vs) ≡ 0 → In v vs → ⊥
not_in v vs z i = let o = times_in (key_of v) (map key_of vs) (map_in key_of v vs i) in omega arith

pub evictable_alike : (wanted : List Rank) (staying : List Tile) (vs : List Evictable) (f budget : ℕ) (v : Evictable) → IsNew (choice_of wanted staying vs f budget) (key_of v)
    → Alike (choice_of wanted staying (with_member eviction_cmp v vs) (f - 1) budget) (finished (choice_of wanted staying vs f budget) (Some (tile_of v)))
evictable_alike wanted staying vs f budget v n =
    let z = stands_nowhere wanted staying vs f budget (key_of v) n in
    let p : IsPermutation (v ∷ vs) (with_member eviction_cmp v vs) = with_new eviction_cmp eviction_order v vs (not_in v vs (omega arith)) in
    alike_by wanted (staying ++ map tile_of (with_member eviction_cmp v vs)) (tile_of v ∷ (staying ++ map tile_of vs)) (f - 1) (f - 1) budget
    (IsPermutation-trans (staying ++ map tile_of (with_member eviction_cmp v vs)) (staying ++ tile_of v ∷ map tile_of vs) (tile_of v ∷ (staying ++ map tile_of vs))
    (IsPermutation-append_right staying (map tile_of (with_member eviction_cmp v vs)) (tile_of v ∷ map tile_of vs)
    (IsPermutation-map tile_of (with_member eviction_cmp v vs) (v ∷ vs) (IsPermutation-sym (v ∷ vs) (with_member eviction_cmp v vs) p)))
    (IsPermutation-middle staying (tile_of v) (map tile_of vs)))
    refl

-- what the lists are after the end of a start whose tile is ready, and what they represent
pub record IsFinished (wanted : List Rank) (staying : List Tile) (vs : List Evictable) (f budget a b d : ℕ) (t : Tile) (staying' : List Tile) (vs' : List Evictable) : Type 0 where
  pub queue : IsQueue wanted staying' vs' (f - 1) a b d
  pub alike : Alike (choice_of wanted staying' vs' (f - 1) budget) (finished (choice_of wanted staying vs f budget) (Some t))

pub finish_all : (wanted : List Rank) (staying staying' : List Tile) (vs vs' : List Evictable) (f budget a b d b' d' : ℕ) (t : Tile)
    → IsQueue wanted staying vs f a b d → IsNew (choice_of wanted staying vs f budget) t.key → 1 ≤ f → b ≤ b' → d ≤ d'
    → (stays t ≡ true → (staying' ≡ staying ++ t ∷ []) × (vs' ≡ vs))
    → (stays t ≡ false → (staying' ≡ staying) × ((v : Evictable) × (tile_of v ≡ t) × (vs' ≡ with_member eviction_cmp v vs)))
    → IsFinished wanted staying vs f budget a b' d' t staying' vs'
finish_all wanted staying staying' vs vs' f budget a b d b' d' t s n l lb ld there else = by_pin (stays t) refl
  where
    by_pin : (p : Bool) → stays t ≡ p → IsFinished wanted staying vs f budget a b' d' t staying' vs'
    by_pin true e =
        let (ep, ev) = there e in
        let s' : IsQueue wanted staying vs f a b d' = record { best_first = s.best_first; worst_first = s.worst_first; all_stay = s.all_stay; once = s.once; fits_ranks = s.fits_ranks; fits_kept = s.fits_kept; fits_evictables = (let o = s.fits_evictables in omega arith); few = s.few } in
        let x : IsFinished wanted staying vs f budget a b' d' t (staying ++ t ∷ []) vs = record { queue = finish_staying wanted staying vs f a b d' b' budget t s' n e l lb; alike = staying_alike wanted staying vs f budget t } in
        subst (λ (ts : List Tile). IsFinished wanted staying vs f budget a b' d' t ts vs') (sym ep) (subst (IsFinished wanted staying vs f budget a b' d' t (staying ++ t ∷ [])) (sym ev) x)
    by_pin false e =
        let (ep, rest) = else e in
        let (v, ev, es) = rest in
        let s' : IsQueue wanted staying vs f a b' d = record { best_first = s.best_first; worst_first = s.worst_first; all_stay = s.all_stay; once = s.once; fits_ranks = s.fits_ranks; fits_kept = (let o = s.fits_kept in omega arith); fits_evictables = s.fits_evictables; few = s.few } in
        let n' : IsNew (choice_of wanted staying vs f budget) (key_of v) = subst (IsNew (choice_of wanted staying vs f budget)) (ap tile_key (sym ev) ∙ key_of_tile v) n in
        let x : IsFinished wanted staying vs f budget a b' d' (tile_of v) staying (with_member eviction_cmp v vs) = record { queue = finish_evictable wanted staying vs f a b' d d' budget v s' n' l ld; alike = evictable_alike wanted staying vs f budget v n' } in
        subst (λ (u : Tile). IsFinished wanted staying vs f budget a b' d' u staying' vs') ev
        (subst (λ (ts : List Tile). IsFinished wanted staying vs f budget a b' d' (tile_of v) ts vs') (sym ep) (subst (IsFinished wanted staying vs f budget a b' d' (tile_of v) staying) (sym es) x))
