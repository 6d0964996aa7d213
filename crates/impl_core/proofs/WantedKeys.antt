-- Wanted ranks are of live keys.
use Rattle.std.proofs.Common.{◌≡◌, inl, inr, ℕ, zero, suc, true, List, [], ◌∷◌, filter, take, ◌∙◌, ap}
use Rattle.geom.specs.KeyLists.{has_key}
use Rattle.tile_priority.specs.declared.rank.Rank.{Rank}
use Rattle.tile_priority.specs.Ranks.{rank_cmp}
use Rattle.tile_priority.specs.Ordered.{In, in_order}
use Rattle.tile_priority.proofs.InOrder.{in_filter, in_order_members}
use Rattle.tile_priority.proofs.Members.{in_filter_map}
use Rattle.tile_priority.proofs.RankOrders.{rank_order}
use Rattle.model_history.specs.declared.history.Entry.{Entry}
use Rattle.model_history.specs.Scripts.{ScriptModel}
use Rattle.model_history.specs.Tiles.{live_keys}
use Rattle.model_history.specs.Ranking.{rank, is_unmade, wanted}
use Rattle.model_history.proofs.KeyFacts.{has_in}
use Rattle.model_history.proofs.RankFacts.{rank_key, key_of_rank}

wanted_live : (s : ScriptModel) (h : List Entry) (r : Rank) → In r (wanted s h) → has_key (live_keys s h) r.key ≡ true
wanted_live s h r i =
    let (q, j, e) = in_filter_map (rank s h) r (filter (is_unmade s h) (live_keys s h)) i in
    let (l, u) = in_filter (is_unmade s h) q (live_keys s h) j in
    ap (has_key (live_keys s h)) (key_of_rank q (rank s h q) r (rank_key s h q) e) ∙ has_in (live_keys s h) q l

-- the first of them in their order

in_take : {X : Type 0} (x : X) (n : ℕ) (xs : List X) → In x (take n xs) → In x xs
in_take x zero xs i = absurd i
in_take x (suc n) [] i = absurd i
in_take x (suc n) (y ∷ ys) (inl e) = inl e
in_take x (suc n) (y ∷ ys) (inr i) = inr (in_take x n ys i)

pub upcoming_live : (s : ScriptModel) (h : List Entry) (most : ℕ) (r : Rank) → In r (take most (in_order rank_cmp (wanted s h))) → has_key (live_keys s h) r.key ≡ true
upcoming_live s h most r i = wanted_live s h r ((in_order_members rank_cmp rank_order (wanted s h)).there r (in_take r most (in_order rank_cmp (wanted s h)) i))
