-- The keys of as many as there would be over the budget.
use Rattle.std.proofs.Common.{ℕ, ◌≡◌, List, map, take, ap, ◌∙◌}
use Rattle.tile_priority.specs.Tiles.{Tile}
use Rattle.tile_priority.specs.Choice.{Evictable, evictable_key, evictable_of, evicted, worst_first}
use Rattle.test_queue.proofs.Worst.{keys_are, weaken}
use Rattle.test_queue.proofs.choice.plain.PlainChoice.evicted.Goals as goal

pub returns : goal.returns
unfolding evicted
returns c =
    let here : map evictable_of c.as_slice.result.now ≡ worst_first c.args.self.now c.args.rank = ap (λ (ts : List Tile). map evictable_of ts) c.as_slice.ensures.value ∙ c.in_ok-evictables.ensures in
    weaken c.keys_of_front.result
    (λ v items.
    items
    ∙ keys_are c.over.result c.as_slice.result.now
    ∙ ap (λ (vs : List Evictable). map evictable_key (take c.over.result vs)) here
    ∙ ap (λ (m : ℕ). map evictable_key (take m (worst_first c.args.self.now c.args.rank))) c.over.ensures)
    c.keys_of_front.ensures
