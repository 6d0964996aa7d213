-- What the choice takes from the lists of a queue.
use Rattle.std.proofs.Common.{◌≡◌, ◌⊎◌, inl, inr, ◌↔◌, ℕ, ◌+◌, ◌-◌, ◌<◌, ◌≤◌, zero, suc, nat_le, nat_lt, min, Bool, true, false, cond, not, ◌&&◌, ◌||◌, Option, Some, None, List, [], ◌∷◌, ◌++◌, length, filter, map, take, drop, get_or, refl, sym, ◌∙◌, ap, subst, arith}
use Rattle.std.specs.Prelude.{option_map, IsNone}
use Rattle.std.specs.List.{list_all}
use Rattle.std.proofs.lemmas.Bool.Decides.{nat_tests}
use Rattle.std.proofs.lemmas.Int.{clamps}
use Rattle.std.proofs.lemmas.List.{take-map, length-take, length-map}
use Rattle.std.proofs.lemmas.List.Elements.{filter-append}
use Rattle.geom.specs.declared.tile.TileKey.{TileKey}
use Rattle.tile_priority.specs.declared.rank.Bin.{Bin}
use Rattle.tile_priority.specs.declared.rank.Bin.TheVariants as bin
use Rattle.tile_priority.specs.declared.rank.Rank.{Rank}
use Rattle.tile_priority.specs.Ranks.{bin_number, rank_cmp}
use Rattle.tile_priority.specs.Tiles.{Tile}
use Rattle.tile_priority.specs.Ordered.{SameMembers, BeforeAll, IsInOrder}
use Rattle.tile_priority.specs.Choice.{Choice, used, evictable_of, evictable_key, gives_way, is_worse, is_enough, is_now, is_visible_rank, worst_cmp, worst_first, evictables, may_start, first, NoneStarts, evicted}
use Rattle.tile_priority.specs.Choice as choosing
use Rattle.tile_priority.proofs.Members.{same_itself}
use Rattle.tile_priority.proofs.Choosing.{worst_first_is_one, first_is_one}
use Rattle.tile_priority.proofs.LeastFirst.{least_is_first}
use Rattle.tile_queue.specs.declared.evictable.Evictable.{Evictable}
use Rattle.tile_queue.specs.declared.evictable.Evictable.TheVariants.{Unranked, Ranked}
use Rattle.tile_queue.specs.Queues.{tile_key}
use Rattle.tile_queue.specs.inner.Orders.{stays, choice_of}
use Rattle.tile_queue.specs.inner.Evictables.{given, tile_of, key_of, eviction_cmp, is_worse_than}
use Rattle.tile_queue.proofs.Places.{order_filter, least_is_head}

-- an evictable tile's parts

pub key_of_tile : (v : Evictable) → tile_key (tile_of v) ≡ key_of v
key_of_tile (Unranked k) = refl
key_of_tile (Ranked r) = refl

pub keys_of_tiles : (vs : List Evictable) → map tile_key (map tile_of vs) ≡ map key_of vs
keys_of_tiles [] = refl
keys_of_tiles (v ∷ vs) = λ i. key_of_tile v i ∷ keys_of_tiles vs i

given_tile : (v : Evictable) → evictable_of (tile_of v) ≡ given v
given_tile (Unranked k) = refl
given_tile (Ranked r) = refl

given_tiles : (vs : List Evictable) → map evictable_of (map tile_of vs) ≡ map given vs
given_tiles [] = refl
given_tiles (v ∷ vs) = λ i. given_tile v i ∷ given_tiles vs i

given_key : (v : Evictable) → evictable_key (given v) ≡ key_of v
given_key (Unranked k) = refl
given_key (Ranked r) = refl

pub given_keys : (vs : List Evictable) → map evictable_key (map given vs) ≡ map key_of vs
given_keys [] = refl
given_keys (v ∷ vs) = λ i. given_key v i ∷ given_keys vs i

way_of_tile : (b : Bin) (v : Evictable) → gives_way b (tile_of v) ≡ is_worse_than b v
way_of_tile b (Unranked k) = refl
way_of_tile b (Ranked r) = refl

-- those that give way

filter_tiles : (b : Bin) (vs : List Evictable) → filter (gives_way b) (map tile_of vs) ≡ map tile_of (filter (is_worse_than b) vs)
filter_tiles b [] = refl
filter_tiles b (v ∷ vs) =
    ap (λ t. cond t (tile_of v ∷ filter (gives_way b) (map tile_of vs)) (filter (gives_way b) (map tile_of vs))) (way_of_tile b v)
    ∙ by_test (is_worse_than b v) (filter_tiles b vs)
  where
    by_test : (t : Bool) → filter (gives_way b) (map tile_of vs) ≡ map tile_of (filter (is_worse_than b) vs)
        → cond t (tile_of v ∷ filter (gives_way b) (map tile_of vs)) (filter (gives_way b) (map tile_of vs)) ≡ map tile_of (cond t (v ∷ filter (is_worse_than b) vs) (filter (is_worse_than b) vs))
    by_test true e = ap (λ ts. tile_of v ∷ ts) e
    by_test false e = e

staying_are_no_evictables : (b : Bin) (ts : List Tile) → list_all stays ts ≡ true → filter (gives_way b) ts ≡ []
staying_are_no_evictables b [] h = refl
staying_are_no_evictables b (t ∷ ts) h = by_pin t.pinned t.rank h (staying_are_no_evictables b ts)
  where
    never_below : (n : ℕ) → nat_lt n 0 ≡ false
    never_below n = by_test (nat_lt n 0) refl
      where
        by_test : (t : Bool) → nat_lt n 0 ≡ t → t ≡ false
        by_test true e = absurd (grind (arith, nat_tests))
        by_test false e = refl

    by_pin : (p : Bool) (r : Option Rank) → (p || is_visible_rank r) && list_all stays ts ≡ true → (list_all stays ts ≡ true → filter (gives_way b) ts ≡ [])
        → cond (not p && is_worse r b) (t ∷ filter (gives_way b) ts) (filter (gives_way b) ts) ≡ []
    by_pin true r h f = f h
    by_pin false None h f = absurd cc
    by_pin false (Some r) h f = by_bin r.bin h
      where
        by_bin : (a : Bin) → is_now a && list_all stays ts ≡ true → cond (nat_lt (bin_number b) (bin_number a)) (t ∷ filter (gives_way b) ts) (filter (gives_way b) ts) ≡ []
        by_bin bin.Now h = rw (never_below (bin_number b)) (f h)
        by_bin bin.Soon h = absurd cc
        by_bin bin.Eventually h = absurd cc

order_given : (vs : List Evictable) → IsInOrder eviction_cmp vs → IsInOrder worst_cmp (map given vs)
order_given [] o = tt
order_given (v ∷ vs) o = (before v vs o.0, order_given vs o.1)
  where
    before : (v : Evictable) (vs : List Evictable) → BeforeAll eviction_cmp v vs → BeforeAll worst_cmp (given v) (map given vs)
    before v [] b = tt
    before v (u ∷ us) b = (b.0, before v us b.1)

module _ (wanted : List Rank) (staying : List Tile) (vs : List Evictable) (in_flight budget : ℕ) (all_stay : list_all stays staying ≡ true) (order : IsInOrder eviction_cmp vs) where
  abbrev c : Choice
  c = choice_of wanted staying vs in_flight budget

  evictables_are : (q : Rank) → evictables c q ≡ map given (filter (is_worse_than q.bin) vs)
  evictables_are q =
      ap (map evictable_of) (filter-append (gives_way q.bin) staying (map tile_of vs))
      ∙ ap (λ ts. map evictable_of (ts ++ filter (gives_way q.bin) (map tile_of vs))) (staying_are_no_evictables q.bin staying all_stay)
      ∙ ap (map evictable_of) (filter_tiles q.bin vs)
      ∙ given_tiles (filter (is_worse_than q.bin) vs)

  pub worst_is : (q : Rank) → worst_first c q ≡ map given (filter (is_worse_than q.bin) vs)
  worst_is q =
      let ws : List choosing.Evictable = map given (filter (is_worse_than q.bin) vs) in
      sym (worst_first_is_one.only c q ws (record {
        order = order_given (filter (is_worse_than q.bin) vs) (order_filter eviction_cmp (is_worse_than q.bin) vs order);
        members = subst (λ us. SameMembers ws us) (sym (evictables_are q)) (same_itself ws);
      }))

  pub count_is : (b : Bin) (n : ℕ) → take n vs ≡ filter (is_worse_than b) vs → n ≤ length vs → (q : Rank) → q.bin ≡ b → n ≡ length (worst_first c q)
  count_is b n those few q e =
      let l : length (take n vs) ≡ min n (length vs) = length-take n vs in
      let m : length (map given (filter (is_worse_than b) vs)) ≡ length (filter (is_worse_than b) vs) = length-map (filter (is_worse_than b) vs) given in
      let k : length (worst_first c q) ≡ length (map given (filter (is_worse_than b) vs)) = ap length (worst_is q ∙ ap (λ a. map given (filter (is_worse_than a) vs)) e) in
      let t : length (take n vs) ≡ length (filter (is_worse_than b) vs) = ap length those in
      omega (arith, clamps)

  -- the evicted are the first of the evictable tiles, as many as give way and are over the budget
  pub evicted_is : (q : Rank) (n over : ℕ) → take n vs ≡ filter (is_worse_than q.bin) vs → over ≡ (used c + 1) - budget → evicted c q ≡ map given (take (min over n) vs)
  unfolding evicted
  evicted_is q n over those e =
      ap (λ k. take k (worst_first c q)) (sym e)
      ∙ ap (take over) (worst_is q ∙ ap (map given) (sym those))
      ∙ take-map given over (take n vs)
      ∙ ap (map given) (take_take over n vs)
    where
      take_none : (k : ℕ) → take {A = Evictable} k [] ≡ []
      take_none zero = refl
      take_none (suc k) = refl

      take_take : (m n : ℕ) (us : List Evictable) → take m (take n us) ≡ take (min m n) us
      take_take zero n us = let e : min 0 n ≡ 0 = omega (arith, clamps) in rw e refl
      take_take (suc m) zero us = let e : min (suc m) 0 ≡ 0 = omega (arith, clamps) in rw e refl
      take_take (suc m) (suc n) [] = sym (take_none (min (suc m) (suc n)))
      take_take (suc m) (suc n) (u ∷ us) =
          let e : min (suc m) (suc n) ≡ suc (min m n) = omega (arith, clamps) in
          rw e (ap (λ ws. u ∷ ws) (take_take m n us))

-- where a rank may start

pub other_side : (u b n : ℕ) → nat_le (u - b) n ≡ nat_le (u - n) b
other_side u b n = by_tests (nat_le (u - b) n) (nat_le (u - n) b) refl refl
  where
    by_tests : (s t : Bool) → nat_le (u - b) n ≡ s → nat_le (u - n) b ≡ t → s ≡ t
    by_tests true true g h = refl
    by_tests true false g h = absurd (grind (arith, nat_tests))
    by_tests false true g h = absurd (grind (arith, nat_tests))
    by_tests false false g h = refl

pub starts_now : (c : Choice) (q : Rank) → q.bin ≡ bin.Now → may_start c q ≡ true
unfolding may_start
starts_now c q e = rw e refl

pub starts_if : (c : Choice) (q : Rank) (b : Bin) (over n : ℕ) → q.bin ≡ b → is_now b ≡ false → over ≡ (used c + 1) - c.budget → n ≡ length (worst_first c q) → nat_le over n ≡ may_start c q
unfolding may_start
starts_if c q b over n e now o l =
    let d : is_now q.bin ≡ false = ap is_now e ∙ now in
    rw (d, sym l) (ap (λ k. nat_le k n) o ∙ other_side (used c + 1) c.budget n)

-- the first rank

pub first_none : (c : Choice) → c.wanted ≡ [] → first c ≡ None
first_none c e = least_is_first.none c (ap choosing.least_of e)

pub first_some : (c : Choice) (q : Rank) (rest : List Rank) → c.wanted ≡ q ∷ rest → IsInOrder rank_cmp c.wanted → first c ≡ cond (may_start c q) (Some q) None
first_some c q rest e b = least_is_first.least c q (ap choosing.least_of e ∙ least_is_head q rest (subst (IsInOrder rank_cmp) e b))

pub none_iff : (c : Choice) (r : Option TileKey) → r ≡ option_map (λ (r : Rank). r.key) (first c) → IsNone r ↔ NoneStarts c
none_iff c r e = by_first (first c) refl e
  where
    by_first : (o : Option Rank) → first c ≡ o → r ≡ option_map (λ (r : Rank). r.key) o → IsNone r ↔ NoneStarts c
    by_first None f e = ((λ h. first_is_one.none c f), (λ h. rw e refl))
    by_first (Some q) f e = (
      (λ h. let d : r ≡ Some q.key = e in absurd (some_is_not q.key r d h)),
      (λ h. let d : first c ≡ None = first_is_one.none_only c h in absurd cc),
    )
      where
        some_is_not : (k : TileKey) (r : Option TileKey) → r ≡ Some k → IsNone r → ⊥
        some_is_not k None d h = cc
        some_is_not k (Some l) d h = cc

pub not_now : (b : Bin) → (b ≡ bin.Soon) ⊎ (b ≡ bin.Eventually) → is_now b ≡ false
not_now b (inl e) = rw e refl
not_now b (inr e) = rw e refl

pub nothing_in : {X : Type 0} (xs : List X) → (0 < length xs → ⊥) → xs ≡ []
nothing_in [] f = refl
nothing_in (x ∷ xs) f = absurd (f (omega arith))

pub head_is : {X : Type 0} (xs : List X) (x : X) → 0 < length xs → x ≡ get_or xs 0 x → xs ≡ x ∷ drop 1 xs
head_is [] x h e = absurd (omega arith)
head_is (y ∷ ys) x h e = ap (λ z. z ∷ ys) (sym e)
