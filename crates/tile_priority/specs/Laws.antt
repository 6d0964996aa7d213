-- What holds of the order of ranks and of the choice.
use Rattle.std.specs.Prelude.{◌≡◌, ◌≤◌, cond, true, Option, Some, None, List, length}
use Rattle.std.specs.declared.cmp.Ordering.{Ordering}
use Rattle.std.specs.declared.cmp.Ordering.TheVariants.{Equal}
use Rattle.std.specs.Cmp.{IsTotalOrder}
use Rattle.tile_priority.specs.declared.rank.Bin.TheVariants as bin
use Rattle.tile_priority.specs.declared.rank.Rank.{Rank}
use Rattle.tile_priority.specs.Ordered.{In, SameMembers, IsInOrder, IsLeast}
use Rattle.geom.specs.declared.tile.TileKey.{TileKey}
use Rattle.tile_priority.specs.Ranks.{bin_number}
use Rattle.tile_priority.specs.Tiles.{Tile, IsRankOfKey}
use Rattle.tile_priority.specs.Choice.{Choice, Evictable, evictable_of, evictable_key, gives_way, IsWorstFirst, worst_first, may_start, IsFirst, NoneStarts, least_of, first, IsEvicted, evicted, SameChoice, NoKeyTwice}
use Rattle.tile_priority.specs.Alike.{Alike, choice_after_start, finished}

-- a total order in which only equal values tie
pub record IsOrder {X : Type 0} (R : X → X → Ordering) : Type 0 where
  pub total : IsTotalOrder R
  pub ties_are_equal : (x y : X) → R x y ≡ Equal → x ≡ y

-- in such an order a list has one least element at most, and two lists in order with the same members are one
pub record OrdersFix {X : Type 0} (R : X → X → Ordering) : Type 0 where
  pub least : (x y : X) (xs : List X) → IsLeast R x xs → IsLeast R y xs → x ≡ y
  pub list : (xs ys : List X) → IsInOrder R xs → IsInOrder R ys → SameMembers xs ys → xs ≡ ys

-- the worst-first list is there, and no other list is one
pub record WorstFirstIsOne : Type 0 where
  pub there : (c : Choice) (q : Rank) → IsWorstFirst c q (worst_first c q)
  pub only : (c : Choice) (q : Rank) (vs : List Evictable) → IsWorstFirst c q vs → vs ≡ worst_first c q

-- the first rank is what its definition says, and it is the only one
pub record FirstIsOne : Type 0 where
  pub there : (c : Choice) (q : Rank) → first c ≡ Some q → IsFirst c q
  pub only : (c : Choice) (q : Rank) → IsFirst c q → first c ≡ Some q
  pub none : (c : Choice) → first c ≡ None → NoneStarts c
  pub none_only : (c : Choice) → NoneStarts c → first c ≡ None

-- the evicted are what their definition says, and no other list is
pub record EvictedAreOne : Type 0 where
  pub there : (c : Choice) (q : Rank) → IsEvicted c q (evicted c q)
  pub only : (c : Choice) (q : Rank) (es : List Evictable) → IsEvicted c q es → es ≡ evicted c q

-- the evicted come from ready tiles that are not pinned and whose bin is worse, or that have none
pub record EvictedGiveWay : Type 0 where
  pub ready : (c : Choice) (q : Rank) (e : Evictable) → In e (evicted c q)
      → (t : Tile) × In t c.ready × (evictable_of t ≡ e) × (gives_way q.bin t ≡ true)
  -- so no pinned tile's key is among them, if each key stands once
  pub pinned : (c : Choice) (q : Rank) (e : Evictable) (t : Tile)
      → ((u : Tile) → In u c.ready → IsRankOfKey u.key u.rank) → NoKeyTwice c.ready
      → In e (evicted c q) → In t c.ready → t.pinned ≡ true → evictable_key e ≡ t.key → ⊥

-- a visible tile may always start, so if one is wanted a visible one is the first
pub record VisibleStart : Type 0 where
  pub may : (c : Choice) (q : Rank) → q.bin ≡ bin.Now → may_start c q ≡ true
  pub goes_first : (c : Choice) (q : Rank) → In q c.wanted → q.bin ≡ bin.Now
      → (r : Rank) × (first c ≡ Some r) × (r.bin ≡ bin.Now)

-- the order of the lists does not count
pub record OrderIsFree : Type 0 where
  pub worst_first : (c d : Choice) (q : Rank) → SameChoice c d → worst_first c q ≡ worst_first d q
  pub may_start : (c d : Choice) (q : Rank) → SameChoice c d → may_start c q ≡ may_start d q
  pub first : (c d : Choice) → SameChoice c d → first c ≡ first d
  pub evicted : (c d : Choice) (q : Rank) → SameChoice c d → evicted c q ≡ evicted d q

-- a rank of a better bin has no fewer evictable tiles; so the first rank is the least wanted one, if that one may start, and else there is none
pub record LeastIsFirst : Type 0 where
  pub no_fewer_evictables : (c : Choice) (p q : Rank) → bin_number p.bin ≤ bin_number q.bin → length (worst_first c q) ≤ length (worst_first c p)
  pub least : (c : Choice) (q : Rank) → least_of c.wanted ≡ Some q → first c ≡ cond (may_start c q) (Some q) None
  pub none : (c : Choice) → least_of c.wanted ≡ None → first c ≡ None

-- alike choices are the same choice, and they stay alike when the same key starts and when the same tile is made
pub record AlikeStay : Type 0 where
  pub same_choice : (c d : Choice) → Alike c d → SameChoice c d
  pub itself : (c : Choice) → Alike c c
  pub back : (c d : Choice) → Alike c d → Alike d c
  pub through : (c d e : Choice) → Alike c d → Alike d e → Alike c e
  pub started : (c d : Choice) (q : TileKey) (evicted : List TileKey) → Alike c d → Alike (choice_after_start c q evicted) (choice_after_start d q evicted)
  pub finished : (c d : Choice) (tile : Option Tile) → Alike c d → Alike (finished c tile) (finished d tile)
