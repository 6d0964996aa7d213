-- A choice of which the visible tiles alone are looked at while one of them is missing.
use Rattle.std.specs.Prelude.{◌≡◌, ◌⊎◌, ◌+◌, Bool, true, false, not, cond, Option, Some, None, length, filter}
use Rattle.tile_priority.specs.declared.rank.Bin.TheVariants as bin
use Rattle.tile_priority.specs.declared.rank.Rank.{Rank}
use Rattle.tile_priority.specs.Tiles.{Tile}
use Rattle.tile_priority.specs.Ordered.{In, SameMembers}
use Rattle.tile_priority.specs.Choice.{Choice, is_now, is_visible_rank, may_start, first}
use Rattle.tile_priority.specs.Alike.{AsMany, finished}

-- the tile is there, and visible
abbrev pub is_shown : Option Tile → Bool
is_shown None = false
is_shown (Some t) = is_visible_rank t.rank

-- the ready tile is not visible
abbrev pub is_hidden : Tile → Bool
is_hidden t = not (is_visible_rank t.rank)

-- the choice in which the ready tiles that are visible only take room, as those in flight do: they are never evicted
abbrev pub without_shown : Choice → Choice
without_shown c = record {
  wanted = c.wanted;
  ready = filter is_hidden c.ready;
  in_flight = c.in_flight + length (filter (λ t. is_visible_rank t.rank) c.ready);
  budget = c.budget;
}

-- a choice in which some of the wanted ranks of another are wanted, those of visible tiles among them; all else is as in the other
pub record WantsVisible (part whole : Choice) : Type 0 where
  pub among : (r : Rank) → In r part.wanted → In r whole.wanted
  pub visible : (r : Rank) → In r whole.wanted → r.bin ≡ bin.Now → In r part.wanted
  pub ready : SameMembers part.ready whole.ready
  pub as_many : AsMany part.ready whole.ready
  pub in_flight : part.in_flight ≡ whole.in_flight
  pub budget : part.budget ≡ whole.budget

-- the first choice is what is looked at of the second
abbrev pub Shows : Choice → Choice → Type 0
Shows part whole = WantsVisible part (without_shown whole)

-- it tells what starts first in the whole: a visible tile does, or no tile may start that is not visible
abbrev pub TellsFirst : Choice → Type 0
TellsFirst c = (is_visible_rank (first c) ≡ true) ⊎ ((q : Rank) → is_now q.bin ≡ false → may_start c q ≡ false)

-- it once a tile in flight is made: a visible one takes room as before
abbrev pub finished_hidden : Choice → Option Tile → Choice
finished_hidden c tile = cond (is_shown tile) c (finished c tile)
