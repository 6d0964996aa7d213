-- As many may be evicted as the worst-first list has.
use Rattle.std.proofs.Common.{◌∙◌, sym, ap, filter, length}
use Rattle.tile_priority.specs.Choice.{gives_way}
use Rattle.tile_queue.proofs.Picking.{starts_now, starts_if, not_now}
use Rattle.impl_tiles.specs.Choices.{choice_among}
use Rattle.impl_tiles.proofs.Counts.{worst_count}
use Rattle.impl_tiles.proofs.ranks.Ranks.may_start.Goals as goal

pub returns-in-Now : goal.returns-in-Now
returns-in-Now c = λ q e. sym (starts_now (choice_among c.args.store.now c.args.pins.now c.args.self.now) q (e ∙ c.in-Now.is))

pub returns-in-Soon : goal.returns-in-Soon
returns-in-Soon c = λ q e.
    let now = choice_among c.args.store.now c.args.pins.now c.args.self.now in
    let many = length (filter (gives_way c.args.bin) now.ready) in
    let count = ap (λ b. length (filter (gives_way b) now.ready)) (sym e) ∙ sym (worst_count c.args.store.now c.args.pins.now c.args.self.now q) in
    c.has_for.ensures ∙ starts_if now q c.args.bin c.over_budget-over.result many e (not_now c.args.bin c.in-Soon.is) c.over_budget-over.ensures count
