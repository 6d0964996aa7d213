-- The store counts its keys.
use Rattle.std.proofs.Common.{◌≡◌, ◌+◌, ◌-◌, length, ◌∙◌, sym, ap}
use Rattle.std.specs.FinMap as fin
use Rattle.std.proofs.lemmas.List.{length-map}
use Rattle.tile_priority.specs.Choice.{used}
use Rattle.impl_tiles.specs.Choices.{Ranked, tile_among, choice_among}
use Rattle.impl_tiles.proofs.ReadyKeyLists.{keys_count}
use Rattle.impl_tiles.proofs.ranks.Ranks.over_budget.Goals as goal

pub returns : goal.returns
returns c =
    let store = c.args.store.now in
    let now = choice_among store c.args.pins.now c.args.self.now in
    let tiles : length now.ready ≡ fin.len store.ready = length-map (fin.keys store.ready) (tile_among c.args.self.now.ranks c.args.pins.now) ∙ keys_count store in
    let all : c.used.result ≡ used now = c.used.ensures ∙ (λ i. sym tiles i + now.in_flight) in
    let budget : c.self.inside.budget ≡ c.args.self.now.budget = ap (λ (r : Ranked). r.budget) c.self.view_is in
    c.saturating_sub.ensures ∙ (λ i. (all i + 1) - budget i)
