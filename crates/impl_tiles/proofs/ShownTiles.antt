-- The queue of the visible tiles is what is looked at of the choice of a past.
use Rattle.std.proofs.Common.{◌≡◌, ℕ, ◌+◌, ◌-◌, true, List, [], ◌∷◌, length, map, filter, refl, sym, ◌∙◌, ap, arith}
use Rattle.std.proofs.lemmas.List.{length-map}
use Rattle.tile_priority.specs.declared.rank.Rank.{Rank}
use Rattle.tile_priority.specs.Tiles.{Tile}
use Rattle.tile_priority.specs.Choice.{Choice, is_visible_rank}
use Rattle.tile_priority.specs.Alike.{Alike}
use Rattle.impl_tiles.specs.Stores.{store_used}
use Rattle.model_history.specs.declared.history.Entry.{Entry}
use Rattle.model_history.specs.Scripts.{ScriptModel}
use Rattle.model_history.specs.Legal.{Legal}
use Rattle.model_history.specs.Tiles.{in_flight, ready}
use Rattle.model_history.specs.Ranking.{choice, ready_tile}
use Rattle.impl_tiles.specs.Visible.{is_hidden, without_shown, Shows}
use Rattle.impl_tiles.specs.Managers.{Managed, Manages, AreVisibleAt}
use Rattle.impl_tiles.proofs.ReadyKeyLists.{used_is}
use Rattle.impl_tiles.proofs.VisibleParts.{both_parts, alike_part}

all_pass : {X : Type 0} (xs : List X) → filter (λ x. true) xs ≡ xs
all_pass [] = refl
all_pass (x ∷ xs) = ap (λ zs. x ∷ zs) (all_pass xs)

-- what takes room beside the hidden ready tiles
taking_room : (used made flying hidden kept shown : ℕ) → used ≡ made + flying → hidden ≡ kept → kept + shown ≡ made → used - hidden ≡ flying + shown
taking_room used made flying hidden kept shown u k p = omega (arith, u, k, p)

pub queue_shows : (s : ScriptModel) (n : ℕ) (h : List Entry) → Legal s n h → (m : Managed) → Manages s h m → (first : List Rank) (hidden : List Tile) (budget : ℕ) (queue : Choice) → s.budget ≡ budget → AreVisibleAt s h first hidden
    → Alike queue (record { wanted = first; ready = hidden; in_flight = store_used m.store - length hidden; budget = budget }) → Shows queue (choice s h)
queue_shows s n h legal m holds first hidden budget queue b are same =
    let tiles : List Tile = map (ready_tile s h) (ready s h) in
    let k : length hidden ≡ length (filter is_hidden tiles) = ap length (sym (all_pass hidden)) ∙ are.as_many (λ t. true) ∙ ap length (all_pass (filter is_hidden tiles)) in
    let p : length (filter is_hidden tiles) + length (filter (λ t. is_visible_rank t.rank) tiles) ≡ length (ready s h) = both_parts tiles ∙ length-map (ready s h) (ready_tile s h) in
    let room : store_used m.store - length hidden ≡ length (in_flight h) + length (filter (λ t. is_visible_rank t.rank) tiles) =
    taking_room (store_used m.store) (length (ready s h)) (length (in_flight h)) (length hidden) (length (filter is_hidden tiles)) (length (filter (λ t. is_visible_rank t.rank) tiles)) (used_is s n h m legal holds) k p in
    alike_part queue (record { wanted = first; ready = hidden; in_flight = store_used m.store - length hidden; budget = budget }) (without_shown (choice s h)) same
    (record { among = are.among; visible = are.visible; ready = are.ready; as_many = are.as_many; in_flight = room; budget = sym b })
