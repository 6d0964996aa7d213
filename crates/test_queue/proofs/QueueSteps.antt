-- A queue that is alike a choice stays so when both go the same step.
use Rattle.std.proofs.Common.{◌≡◌, inl, inr, Bool, true, false, ◌||◌, Option, List, [], ◌∷◌, map, refl, sym, subst}
use Rattle.geom.specs.declared.tile.TileKey.{TileKey}
use Rattle.geom.specs.KeyLists.{same_key, has_key}
use Rattle.geom.proofs.KeyLists.{one_key}
use Rattle.tile_priority.specs.declared.rank.Rank.{Rank}
use Rattle.tile_priority.specs.Tiles.{Tile}
use Rattle.tile_priority.specs.Ordered.{In}
use Rattle.tile_priority.specs.Choice.{Choice}
use Rattle.tile_priority.specs.Alike.{Alike, choice_after_start, finished}
use Rattle.tile_priority.proofs.InOrder.{same_map}
use Rattle.tile_priority.proofs.StayAlike.{alike_stay}
use Rattle.tile_queue.specs.Queues.{rank_key, tile_key, IsNew, AreEvictedFor, MayStartWith}
use Rattle.test_queue.proofs.KeyTests.{none_same}

-- one of the ranks is of this key
pub record HasRankOf (ranks : List Rank) (q : TileKey) : Type 0 where
  pub rank : Rank
  pub one : In rank ranks
  pub key : rank.key ≡ q

has_rank : (rs : List Rank) (q : TileKey) → has_key (map rank_key rs) q ≡ true → HasRankOf rs q
has_rank [] q h = absurd cc
has_rank (r ∷ rs) q h = by_test (same_key r.key q) refl h (λ g. has_rank rs q g)
  where
    by_test : (t : Bool) → same_key r.key q ≡ t → (t || has_key (map rank_key rs) q) ≡ true → (has_key (map rank_key rs) q ≡ true → HasRankOf rs q) → HasRankOf (r ∷ rs) q
    by_test true e h later = record { rank = r; one = inl refl; key = one_key r.key q e }
    by_test false e h later = record { rank = (later h).rank; one = inr (later h).one; key = (later h).key }

-- c is what the queue represents and d the choice beside it

pub may_start_with : (c d : Choice) → Alike c d → (q : TileKey) (ks : List TileKey) → has_key (map rank_key d.wanted) q ≡ true → AreEvictedFor c q ks → MayStartWith c q ks
may_start_with c d a q ks h f =
    let one : HasRankOf d.wanted q = has_rank d.wanted q h in
    let there : In one.rank c.wanted = a.wanted.back one.rank one.one in
    record { rank = one.rank; wanted = there; key = one.key; evicted = f one.rank there one.key }

pub new_too : (c d : Choice) → Alike c d → (q : TileKey) → IsNew d q → IsNew c q
new_too c d a q n = record {
  not_wanted = none_same _ _ (same_map rank_key c.wanted d.wanted a.wanted) q n.not_wanted;
  not_ready = none_same _ _ (same_map tile_key c.ready d.ready a.ready) q n.not_ready;
}

pub start_stays : (after c d next : Choice) (q : TileKey) (ks : List TileKey) → Alike c d → Alike after (choice_after_start c q ks) → next ≡ choice_after_start d q ks → Alike after next
start_stays after c d next q ks a h e = subst (Alike after) (sym e) (alike_stay.through after (choice_after_start c q ks) (choice_after_start d q ks) h (alike_stay.started c d q ks a))

pub finish_stays : (after c d next : Choice) (tile : Option Tile) → Alike c d → Alike after (finished c tile) → next ≡ finished d tile → Alike after next
finish_stays after c d next tile a h e = subst (Alike after) (sym e) (alike_stay.through after (finished c tile) (finished d tile) h (alike_stay.finished c d tile a))
