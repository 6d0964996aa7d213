-- What a new choice makes of the lists of a queue.
use Rattle.std.proofs.Common.{◌≡◌, ℕ, ◌+◌, ◌<◌, ◌≤◌, Bool, true, false, cond, not, List, [], ◌∷◌, ◌++◌, length, filter, map, refl, sym, ◌∙◌, ap, subst, arith, length-append, ◌^◌}
use Rattle.std.specs.List.{list_all}
use Rattle.std.specs.List.Sorted.{IsPermutation}
use Rattle.std.proofs.lemmas.List.{length-map, map-append}
use Rattle.std.proofs.lemmas.List.Sorted.{IsPermutation-trans, IsPermutation-sym, IsPermutation-map, IsPermutation-append_right, IsPermutation-filter_both, length_permutation}
use Rattle.geom.specs.declared.tile.TileKey.{TileKey}
use Rattle.geom.specs.KeyLists.{has_key}
use Rattle.tile_priority.specs.declared.rank.Rank.{Rank}
use Rattle.tile_priority.specs.Ranks.{rank_cmp}
use Rattle.tile_priority.specs.Tiles.{Tile}
use Rattle.tile_priority.specs.Ordered.{IsInOrder}
use Rattle.tile_priority.specs.Alike.{Alike}
use Rattle.tile_queue.specs.declared.evictable.Evictable.{Evictable}
use Rattle.tile_queue.specs.Queues.{rank_key, tile_key, EachKeyOnce}
use Rattle.tile_queue.specs.inner.Orders.{times, standing, keys, stays, IsQueue, choice_of}
use Rattle.tile_queue.specs.inner.Evictables.{tile_of, key_of, eviction_cmp}
use Rattle.tile_queue.proofs.Times.{times_append, times_none, times_distinct, times_permutation}
use Rattle.tile_queue.proofs.Sorted.{permutation_members, permutation_many}
use Rattle.tile_queue.proofs.Picking.{keys_of_tiles}

module _ (ranks wanted : List Rank) (ready staying : List Tile) (vs : List Evictable) (same : IsPermutation ranks wanted) (kept : staying ≡ filter stays ready) (others : IsPermutation (filter (λ t. not (stays t)) ready) (map tile_of vs)) where
  all_ready : IsPermutation ready (staying ++ map tile_of vs)
  all_ready =
      IsPermutation-trans ready (filter stays ready ++ filter (λ t. not (stays t)) ready) (staying ++ map tile_of vs)
      (IsPermutation-filter_both stays (λ t. not (stays t)) (λ t. refl) ready)
      (subst (λ ts. IsPermutation (filter stays ready ++ filter (λ t. not (stays t)) ready) (ts ++ map tile_of vs)) (sym kept)
      (IsPermutation-append_right (filter stays ready) (filter (λ t. not (stays t)) ready) (map tile_of vs) others))

  all_pass : (ts : List Tile) → list_all stays (filter stays ts) ≡ true
  all_pass [] = refl
  all_pass (t ∷ ts) = by_pin (stays t) refl (all_pass ts)
    where
      by_pin : (p : Bool) → stays t ≡ p → list_all stays (filter stays ts) ≡ true → list_all stays (cond p (t ∷ filter stays ts) (filter stays ts)) ≡ true
      by_pin true e r = rw e r
      by_pin false e r = r

  pub new_length : (f : ℕ) → keys wanted staying vs f ≡ length ranks + (length ready + f)
  new_length f =
      let a : length wanted ≡ length ranks = length_permutation ranks wanted same in
      let b : length (staying ++ map tile_of vs) ≡ length ready = length_permutation ready (staying ++ map tile_of vs) all_ready in
      let d = length-append staying (map tile_of vs) in
      let e = length-map vs tile_of in
      omega arith

  new_once : EachKeyOnce ranks ready → (q : TileKey) → standing q wanted staying vs ≤ 1
  new_once o q =
      let a = times_permutation q (map rank_key ranks) (map rank_key wanted) (IsPermutation-map rank_key ranks wanted same) in
      let b = times_permutation q (map tile_key ready) (map tile_key (staying ++ map tile_of vs)) (IsPermutation-map tile_key ready (staying ++ map tile_of vs) all_ready) in
      let d : times q (map tile_key (staying ++ map tile_of vs)) ≡ times q (map tile_key staying) + times q (map key_of vs) =
      ap (times q) (map-append tile_key staying (map tile_of vs) ∙ ap (λ ks. map tile_key staying ++ ks) (keys_of_tiles vs)) ∙ times_append q (map tile_key staying) (map key_of vs) in
      let e = apart (has_key (map rank_key ranks) q) refl in
      omega arith
    where
      apart : (t : Bool) → has_key (map rank_key ranks) q ≡ t → times q (map rank_key ranks) + times q (map tile_key ready) ≤ 1
      apart true h = let x = times_distinct q (map rank_key ranks) o.wanted_once in let y = times_none q (map tile_key ready) (o.apart q h) in omega arith
      apart false h = let x = times_none q (map rank_key ranks) h in let y = times_distinct q (map tile_key ready) o.ready_once in omega arith

  pub new_queue : (f a b d : ℕ) → EachKeyOnce ranks ready → IsInOrder rank_cmp wanted → IsInOrder eviction_cmp vs
      → length ranks + (length ready + f) ≤ a → length ranks + (length ready + f) ≤ b → length ranks + (length ready + f) ≤ d → length ranks + (length ready + f) < 2 ^ 62
      → IsQueue wanted staying vs f a b d
  new_queue f a b d o ow ov la lb ld few =
      let l = new_length f in
      record {
        best_first = ow;
        worst_first = ov;
        all_stay = subst (λ ts. list_all stays ts ≡ true) (sym kept) (all_pass ready);
        once = new_once o;
        fits_ranks = omega arith;
        fits_kept = omega arith;
        fits_evictables = omega arith;
        few = omega arith;
      }

  pub new_alike : (f budget : ℕ) → Alike (choice_of wanted staying vs f budget) (record { wanted = ranks; ready = ready; in_flight = f; budget = budget })
  new_alike f budget = record {
    wanted = permutation_members wanted ranks (IsPermutation-sym ranks wanted same);
    ready = permutation_members (staying ++ map tile_of vs) ready (IsPermutation-sym ready (staying ++ map tile_of vs) all_ready);
    as_many = permutation_many (staying ++ map tile_of vs) ready (IsPermutation-sym ready (staying ++ map tile_of vs) all_ready);
    in_flight = refl;
    budget = refl;
  }
