use Rattle.std.proofs.Common.{◌≡◌, ℕ, length, filter, ◌∙◌, sym, subst}
use Rattle.tile_priority.specs.Choice.{Choice, worst_first}
use Rattle.tile_queue.specs.inner.Evictables.{is_worse_than}
use Rattle.tile_queue.proofs.Changes.{prefix_passes}
use Rattle.tile_queue.proofs.Halves.{few_pass}
use Rattle.tile_queue.proofs.EvictionOrders.{worse_first}
use Rattle.tile_queue.proofs.Picking.{count_is, starts_now, starts_if, not_now}
use Rattle.tile_queue.proofs.queue.RasterQueue.may_start.Goals as goal

pub returns-in-Now : goal.returns-in-Now
returns-in-Now c = λ q e. sym (starts_now c.args.self.now q (e ∙ c.in-Now.is))

pub returns-in-Soon : goal.returns-in-Soon
returns-in-Soon c =
    λ q e.
    let n : ℕ = length (filter (is_worse_than c.args.bin) c.self.inside.evictables.items) in
    let k : n ≡ length (worst_first c.args.self.now q) =
    subst (λ (z : Choice). n ≡ length (worst_first z q)) c.self.view_is
    (count_is c.self.inside.wanted.items c.self.inside.staying.items c.self.inside.evictables.items c.self.inside.in_flight c.self.inside.budget
    c.self.invariant.all_stay c.self.invariant.worst_first c.args.bin n (prefix_passes (is_worse_than c.args.bin) c.self.inside.evictables.items (worse_first c.args.bin c.self.inside.evictables.items c.self.invariant.worst_first))
    (few_pass (is_worse_than c.args.bin) c.self.inside.evictables.items) q e) in
    c.has_for.ensures ∙ starts_if c.args.self.now q c.args.bin c.over_budget.result n e (not_now c.args.bin c.in-Soon.is) c.over_budget.ensures k
