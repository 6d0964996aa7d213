-- Which tile is made next, and which ready tiles are evicted for it.
use Rattle.std.specs.Prelude.{◌≡◌, ◌⊎◌, ◌<◌, ℕ, ◌+◌, ◌-◌, nat_lt, nat_le, Bool, true, false, ◌&&◌, ◌||◌, not, Option, Some, None, option_map, unwrap_or, List, [], ◌∷◌, ◌++◌, length, take, map, filter}
use Rattle.std.specs.declared.cmp.Ordering.{Ordering}
use Rattle.std.specs.declared.cmp.Ordering.TheVariants.{Less, Greater}
use Rattle.geom.specs.KeyOrder.{key_cmp}
use Rattle.geom.specs.declared.tile.TileKey.{TileKey}
use Rattle.tile_priority.specs.declared.rank.Bin.{Bin}
use Rattle.tile_priority.specs.declared.rank.Bin.TheVariants as bin
use Rattle.tile_priority.specs.declared.rank.Rank.{Rank}
use Rattle.tile_priority.specs.Ranks.{bin_number, rank_cmp, least}
use Rattle.tile_priority.specs.Tiles.{Tile}
use Rattle.tile_priority.specs.Ordered.{In, SameMembers, IsInOrder, in_order}

-- what the choice is made from: the ranks of the keys that have one and are neither ready nor in flight, the ready tiles, how many tiles are in flight, and how many there may be
pub record Choice : Type 0 where
  pub wanted : List Rank
  pub ready : List Tile
  pub in_flight : ℕ
  pub budget : ℕ

-- how many tiles there are, ready or in flight
abbrev pub used : Choice → ℕ
used c = length c.ready + c.in_flight

-- a ready tile that may be evicted, by what orders it: its key if it has no rank, else its rank
pub data Evictable : Type 0 where
  unranked : TileKey → Evictable
  ranked : Rank → Evictable

-- the evictable tile's key
abbrev pub evictable_key : Evictable → TileKey
evictable_key (unranked k) = k
evictable_key (ranked r) = r.key

-- the ready tile as an evictable one; and from its parts, as proofs speak of it
abbrev pub evictable_of : Tile → Evictable
evictable_of t = unwrap_or (option_map ranked t.rank) (unranked t.key)

abbrev pub evictable_by : TileKey → Option Rank → Evictable
evictable_by key rank = unwrap_or (option_map ranked rank) (unranked key)

-- no rank, or a rank of a worse bin; the ready tile may be evicted for a tile of this bin: it is not pinned, and its bin is worse, or it has none
abbrev pub is_worse : Option Rank → Bin → Bool
is_worse rank b = unwrap_or (option_map (λ r. nat_lt (bin_number b) (bin_number r.bin)) rank) true

abbrev pub gives_way : Bin → Tile → Bool
gives_way b t = not t.pinned && is_worse t.rank b

-- the evictable tiles for a rank
abbrev pub evictables : Choice → Rank → List Evictable
evictables c q = map evictable_of (filter (gives_way q.bin) c.ready)

-- the worst first: those without a rank by falling key, then the others by falling rank
abbrev pub worst_cmp : Evictable → Evictable → Ordering
worst_cmp (unranked k) (unranked l) = key_cmp l k
worst_cmp (unranked k) (ranked s) = Less
worst_cmp (ranked r) (unranked l) = Greater
worst_cmp (ranked r) (ranked s) = rank_cmp s r

-- the list of the evictable tiles for q, the worst first
pub record IsWorstFirst (c : Choice) (q : Rank) (vs : List Evictable) : Type 0 where
  pub order : IsInOrder worst_cmp vs
  pub members : SameMembers vs (evictables c q)

-- that list, computed; laws say that it is the one list that is worst first
unfoldable pub worst_first : Choice → Rank → List Evictable
worst_first c q = in_order worst_cmp (evictables c q)

-- evicting this many tiles makes room for one more
abbrev pub is_enough : Choice → ℕ → Bool
is_enough c n = nat_le ((used c + 1) - n) c.budget

abbrev pub is_now : Bin → Bool
is_now bin.Now = true
is_now _ = false

-- the rank of a visible tile
abbrev pub is_visible_rank : Option Rank → Bool
is_visible_rank None = false
is_visible_rank (Some r) = is_now r.bin

-- a wanted tile may start: it is visible, or evicting all that it may makes room
unfoldable pub may_start : Choice → Rank → Bool
may_start c q = is_now q.bin || is_enough c (length (worst_first c q))

-- the wanted rank that starts first: none that may start is better
pub record IsFirst (c : Choice) (q : Rank) : Type 0 where
  pub wanted : In q c.wanted
  pub starts : may_start c q ≡ true
  pub none_better : (p : Rank) → In p c.wanted → may_start c p ≡ true → rank_cmp p q ≡ Less → ⊥

-- no wanted rank may start
abbrev pub NoneStarts : Choice → Type 0
NoneStarts c = (p : Rank) → In p c.wanted → may_start c p ≡ false

-- the least of the ranks of a list; the rank that starts first, if there is one
abbrev pub least_of : List Rank → Option Rank
least_of [] = None
least_of (r ∷ rs) = least (Some r) (least_of rs)

unfoldable pub first : Choice → Option Rank
first c = least_of (filter (may_start c) c.wanted)

-- what is evicted for q: the shortest prefix of the worst-first list that is enough, or the whole list
-- if no prefix is enough
pub record IsEvicted (c : Choice) (q : Rank) (es : List Evictable) : Type 0 where
  pub rest : List Evictable
  pub front : es ++ rest ≡ worst_first c q
  pub none_shorter : (n : ℕ) → n < length es → is_enough c n ≡ false
  pub enough_or_all : (is_enough c (length es) ≡ true) ⊎ (rest ≡ [])

-- as many as there would be over the budget
unfoldable pub evicted : Choice → Rank → List Evictable
evicted c q = take ((used c + 1) - c.budget) (worst_first c q)

-- the same choice, with its lists in other orders
pub record SameChoice (c d : Choice) : Type 0 where
  pub wanted : SameMembers c.wanted d.wanted
  pub ready : SameMembers c.ready d.ready
  pub as_many : length c.ready ≡ length d.ready
  pub in_flight : c.in_flight ≡ d.in_flight
  pub budget : c.budget ≡ d.budget

-- no two of the ready tiles have one key
abbrev pub NoKeyTwice : List Tile → Type 0
NoKeyTwice [] = Unit {0}
NoKeyTwice (t ∷ ts) = ((u : Tile) → In u ts → u.key ≡ t.key → ⊥) × NoKeyTwice ts
