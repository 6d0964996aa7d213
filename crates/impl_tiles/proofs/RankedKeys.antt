-- The rank of a key among ranks, each of which is of another key.
use Rattle.std.proofs.Common.{◌≡◌, inl, inr, Bool, true, false, cond, Option, Some, None, List, [], ◌∷◌, map, refl, sym, ◌∙◌, ap, subst}
use Rattle.std.specs.List.{find}
use Rattle.std.specs.List.Sorted.{IsPermutation}
use Rattle.geom.specs.declared.tile.TileKey.{TileKey}
use Rattle.geom.specs.KeyLists.{same_key, has_key, AreDistinctKeys}
use Rattle.geom.proofs.KeyLists.{one_key, same_from}
use Rattle.tile_priority.specs.declared.rank.Rank.{Rank}
use Rattle.tile_priority.specs.declared.rank.Side.{Side}
use Rattle.tile_priority.specs.declared.rank.Side.TheVariants as side
use Rattle.tile_priority.specs.Ordered.{In, SameMembers}
use Rattle.tile_priority.specs.Ranks.{least}
use Rattle.tile_priority.specs.Alike.{is_of}
use Rattle.tile_priority.proofs.InOrder.{map_in, same_trans, same_sym}
use Rattle.tile_priority.proofs.Members.{in_append_left, in_append_right, in_filter_map, filter_map_in}
use Rattle.tile_queue.specs.Queues.{rank_key}
use Rattle.tile_queue.proofs.Sorted.{permutation_members}
use Rattle.model_history.specs.declared.history.Entry.{Entry}
use Rattle.model_history.specs.Scripts.{ScriptModel}
use Rattle.model_history.specs.Tiles.{Tree, active_tree, pending_tree, keys_of, live_keys}
use Rattle.model_history.specs.Ranking.{rank_in, rank}
use Rattle.model_history.proofs.BoolFacts.{not_both, is_false}
use Rattle.model_history.proofs.KeyFacts.{has_in, in_has}
use Rattle.model_history.proofs.RankFacts.{key_of_rank}
use Rattle.model_history.proofs.RankFacts as ranks
use Rattle.impl_tiles.specs.Managers.{live_ranks}
use Rattle.impl_tiles.specs.inner.Places.{IsRankAmong}

-- ranks in another order have the same members
pub ordered_members : (rs os ts ms : List Rank) → IsPermutation rs os → ts ≡ os → SameMembers rs ms → SameMembers ts ms
ordered_members rs os ts ms order is same = subst (λ (xs : List Rank). SameMembers xs ms) (sym is) (same_trans os rs ms (same_sym rs os (permutation_members rs os order)) same)

-- the rank that is found

other_key : (q : TileKey) (r x : Rank) (xs : List Rank) → has_key (map rank_key xs) x.key ≡ false → In r xs → r.key ≡ q → same_key x.key q ≡ false
other_key q r x xs apart i e = is_false (same_key x.key q) (λ t.
    let is : r.key ≡ x.key = e ∙ sym (one_key x.key q t) in
    not_both (has_key (map rank_key xs) x.key) (subst (λ k. has_key (map rank_key xs) k ≡ true) is (has_in (map rank_key xs) r.key (map_in rank_key r xs i))) apart)

find_one : (q : TileKey) (r : Rank) (rs : List Rank) → AreDistinctKeys (map rank_key rs) → In r rs → r.key ≡ q → find (is_of q) rs ≡ Some r
find_one q r [] once i e = absurd i
find_one q r (x ∷ xs) once (inl is) e = ap (λ b. cond b (Some x) (find (is_of q) xs)) (same_from x.key q (ap rank_key (sym is) ∙ e)) ∙ ap Some (sym is)
find_one q r (x ∷ xs) once (inr i) e = ap (λ b. cond b (Some x) (find (is_of q) xs)) (other_key q r x xs once.0 i e) ∙ find_one q r xs once.1 i e

find_none : (q : TileKey) (rs : List Rank) → ((r : Rank) → In r rs → r.key ≡ q → ⊥) → find (is_of q) rs ≡ None
find_none q [] none = refl
find_none q (x ∷ xs) none =
    ap (λ b. cond b (Some x) (find (is_of q) xs)) (is_false (same_key x.key q) (λ t. none x (inl refl) (one_key x.key q t)))
    ∙ find_none q xs (λ r i. none r (inr i))

pub find_among : (q : TileKey) (rs : List Rank) → IsRankAmong rs q (find (is_of q) rs)
find_among q [] = λ r i e. i
find_among q (x ∷ xs) = by_test (same_key x.key q) refl (find_among q xs)
  where
    later : (o : Option Rank) → same_key x.key q ≡ false → IsRankAmong xs q o → IsRankAmong (x ∷ xs) q o
    later (Some r) f found = (inr found.0, found.1)
    later None f none = λ r i e. elim i [
      | inl is ↦ not_both (same_key x.key q) (same_from x.key q (ap rank_key (sym is) ∙ e)) f
      | inr j ↦ none r j e
    ]

    by_test : (b : Bool) → same_key x.key q ≡ b → IsRankAmong xs q (find (is_of q) xs) → IsRankAmong (x ∷ xs) q (cond b (Some x) (find (is_of q) xs))
    by_test true t found = (inl refl, one_key x.key q t)
    by_test false t found = later (find (is_of q) xs) t found

-- ranks with the same members have it too
pub among : (rs ms : List Rank) → SameMembers rs ms → AreDistinctKeys (map rank_key ms) → (q : TileKey) (o : Option Rank) → IsRankAmong rs q o → o ≡ find (is_of q) ms
among rs ms same once q (Some r) found = sym (find_one q r ms once (same.there r found.0) found.1)
among rs ms same once q None none = sym (find_none q ms (λ r i e. none r (same.back r i) e))

-- among the ranks of the live keys it is the rank of the key

ranked_there : (s : ScriptModel) (on : Side) (t : Tree) (q : TileKey) (r : Rank) → rank_in s on t q ≡ Some r → has_key (keys_of t) q ≡ true
unfolding rank_in
ranked_there s on t q r e = by_test (has_key (keys_of t) q) _ e
  where
    by_test : (b : Bool) (o : Option Rank) → cond b o None ≡ Some r → b ≡ true
    by_test true o e = refl
    by_test false o e = absurd cc

module _ (s : ScriptModel) (h : List Entry) where
  ranked_live : (q : TileKey) (x y : Option Rank) → rank_in s side.Active (active_tree s h) q ≡ x → rank_in s side.Pending (pending_tree s h) q ≡ y → (r : Rank) → least x y ≡ Some r → In q (live_keys s h)
  ranked_live q (Some z) y e f r g = in_append_left q (keys_of (active_tree s h)) (keys_of (pending_tree s h)) (in_has (keys_of (active_tree s h)) q (ranked_there s side.Active (active_tree s h) q z e))
  ranked_live q None (Some z) e f r g = in_append_right q (keys_of (active_tree s h)) (keys_of (pending_tree s h)) (in_has (keys_of (pending_tree s h)) q (ranked_there s side.Pending (pending_tree s h) q z f))
  ranked_live q None None e f r g = absurd cc

  module _ (rs : List Rank) (same : SameMembers rs (live_ranks s h)) where
    rank_of_found : (q : TileKey) (o : Option Rank) → IsRankAmong rs q o → o ≡ rank s h q
    rank_of_found q (Some r) found =
        let (k, i, e) = in_filter_map (rank s h) r (live_keys s h) (same.there r found.0) in
        let is : k ≡ q = sym (key_of_rank k (rank s h k) r (ranks.rank_key s h k) e) ∙ found.1 in
        sym e ∙ ap (rank s h) is
    rank_of_found q None none = by_rank (rank s h q) refl
      where
        by_rank : (o : Option Rank) → rank s h q ≡ o → None ≡ rank s h q
        by_rank None e = sym e
        by_rank (Some r) e =
            let there : In q (live_keys s h) = ranked_live q (rank_in s side.Active (active_tree s h) q) (rank_in s side.Pending (pending_tree s h) q) refl refl r e in
            let i : In r rs = same.back r (filter_map_in (rank s h) q r (live_keys s h) there e) in
            absurd (none r i (key_of_rank q (rank s h q) r (ranks.rank_key s h q) e))

    pub rank_is : (q : TileKey) → find (is_of q) rs ≡ rank s h q
    rank_is q = rank_of_found q (find (is_of q) rs) (find_among q rs)
