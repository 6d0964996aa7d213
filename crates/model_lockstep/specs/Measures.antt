-- How far the loops of lockstep have still to go.
use Rattle.std.specs.Prelude.{ℕ, suc, ◌+◌, ◌-◌, ◌*◌, ◌==◌, Bool, true, false, not, ◌&&◌, List, [], ◌∷◌, length, filter, Option, Some, None}
use Rattle.geom.specs.declared.tile.TileKey.{TileKey}
use Rattle.tile_priority.specs.declared.rank.Bin.{Bin}
use Rattle.tile_priority.specs.declared.rank.Bin.TheVariants as bin
use Rattle.tile_priority.specs.declared.rank.Rank.{Rank}
use Rattle.tile_priority.specs.Ranks.{bin_number}
use Rattle.model_history.specs.declared.history.Entry.{Entry}
use Rattle.model_history.specs.Scripts.{ScriptModel}
use Rattle.model_history.specs.EventFields.{sends}
use Rattle.model_history.specs.Scans.{counted}
use Rattle.geom.specs.KeyLists.{has_key}
use Rattle.model_history.specs.Tiles.{live_keys, ready}
use Rattle.model_history.specs.Ranking.{rank}
use Rattle.model_history.specs.Lockstep.{waits}
use Rattle.model_lockstep.specs.Walks.{WalkState}

-- a rank of this bin
abbrev pub is_of_bin : Bin → Option Rank → Bool
is_of_bin b None = false
is_of_bin b (Some r) = bin_number r.bin == bin_number b

-- a key of this bin that is not ready
abbrev pub is_to_make : ScriptModel → List Entry → Bin → TileKey → Bool
is_to_make s h b q = not (has_key (ready s h) q) && is_of_bin b (rank s h q)

-- how many live keys of this bin are not ready
unfoldable pub to_make : ScriptModel → List Entry → Bin → ℕ
to_make s h b = length (filter (is_to_make s h b) (live_keys s h))

-- three counts as the digits of one number, the first of which weighs most
abbrev pub weighed : ℕ → ℕ → ℕ → ℕ → ℕ
weighed base now soon eventually = (now * base + soon) * base + eventually

-- the tiles that are left to make: a tile of a better bin weighs more than all of the worse bins
unfoldable pub tiles_left : ScriptModel → List Entry → ℕ
tiles_left s h = weighed (suc (length (live_keys s h))) (to_make s h bin.Now) (to_make s h bin.Soon) (to_make s h bin.Eventually)

abbrev pub one_if : Bool → ℕ
one_if true = 1
one_if false = 0

-- the rounds that are left: one for each main frame that was not sent, and one for a pending commit
unfoldable pub rounds_left : ScriptModel → List Entry → ℕ
rounds_left s h = (length s.main - counted sends h) + one_if (waits h)

-- the inputs that are left, each of which weighs this much, and the rounds
abbrev pub left_to_play : {X : Type 0} → List X → ℕ → ℕ → ℕ
left_to_play [] weight rounds = rounds
left_to_play (x ∷ xs) weight rounds = weight + left_to_play xs weight rounds

-- how much is left to play, where an input weighs more than all rounds
abbrev pub to_play : {X : Type 0} → List X → WalkState → ℕ
to_play is r = left_to_play is (suc (suc (length r.script.main))) (rounds_left r.script r.past)
