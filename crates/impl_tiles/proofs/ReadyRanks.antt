-- The ranks of some keys tell the tiles of these keys as all ranks do.
use Rattle.std.proofs.Common.{◌≡◌, inl, inr, Bool, true, false, cond, Option, Some, None, List, [], ◌∷◌, map, filter, refl, sym, ◌∙◌, ap, subst}
use Rattle.std.specs.List.{find}
use Rattle.geom.specs.declared.tile.TileKey.{TileKey}
use Rattle.geom.specs.KeyLists.{same_key, has_key, AreDistinctKeys}
use Rattle.geom.proofs.KeyLists.{one_key}
use Rattle.tile_priority.specs.declared.rank.Rank.{Rank}
use Rattle.tile_priority.specs.Ordered.{In}
use Rattle.tile_priority.specs.Alike.{is_of}
use Rattle.tile_queue.specs.Queues.{rank_key}
use Rattle.model_history.proofs.BoolFacts.{not_both, is_false}
use Rattle.model_history.proofs.KeyFacts.{has_in, distinct_filter}
use Rattle.model_steps.proofs.Picks.{filter_map_test}
use Rattle.impl_tiles.specs.Choices.{tile_among}

-- the ranks of these keys
abbrev pub ranks_of : List TileKey → List Rank → List Rank
ranks_of ks rs = filter (λ r. has_key ks r.key) rs

pub ranks_of_once : (ks : List TileKey) (rs : List Rank) → AreDistinctKeys (map rank_key rs) → AreDistinctKeys (map rank_key (ranks_of ks rs))
ranks_of_once ks rs once = subst AreDistinctKeys (filter_map_test rank_key (has_key ks) rs) (distinct_filter (has_key ks) (map rank_key rs) once)

-- the rank of one of the keys is found among them
find_of : (ks : List TileKey) (q : TileKey) (rs : List Rank) → has_key ks q ≡ true → find (is_of q) (ranks_of ks rs) ≡ find (is_of q) rs
find_of ks q [] there = refl
find_of ks q (r ∷ rs) there = by_test (has_key ks r.key) refl (find_of ks q rs there)
  where
    by_test : (b : Bool) → has_key ks r.key ≡ b → find (is_of q) (ranks_of ks rs) ≡ find (is_of q) rs
        → find (is_of q) (cond b (r ∷ ranks_of ks rs) (ranks_of ks rs)) ≡ cond (is_of q r) (Some r) (find (is_of q) rs)
    by_test true e same = ap (λ o. cond (is_of q r) (Some r) o) same
    by_test false e same =
        let other : is_of q r ≡ false = is_false (is_of q r) (λ t. not_both (has_key ks q) there (ap (has_key ks) (sym (one_key r.key q t)) ∙ e)) in
        same ∙ ap (λ b. cond b (Some r) (find (is_of q) rs)) (sym other)

map_in_same : {X Y : Type 0} (f g : X → Y) (xs : List X) → ((x : X) → In x xs → f x ≡ g x) → map f xs ≡ map g xs
map_in_same f g [] same = refl
map_in_same f g (x ∷ xs) same = λ i. same x (inl refl) i ∷ map_in_same f g xs (λ y j. same y (inr j)) i

pub tiles_of : (ks pins : List TileKey) (rs : List Rank) → map (tile_among (ranks_of ks rs) pins) ks ≡ map (tile_among rs pins) ks
tiles_of ks pins rs =
    map_in_same (tile_among (ranks_of ks rs) pins) (tile_among rs pins) ks
    (λ q j i. record { key = q; rank = find_of ks q rs (has_in ks q j) i; pinned = has_key pins q })
