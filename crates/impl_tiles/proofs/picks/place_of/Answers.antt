-- The closure gives the key.
use Rattle.std.proofs.Common.{rules, subst, sym}
use Rattle.std.proofs.lemmas.List.Sorted.{answers_always}
use Rattle.tile_queue.specs.Queues.{rank_key}
use Rattle.impl_tiles.specs.inner.Places.{IsRankAt}
use Rattle.impl_tiles.proofs.KeyOrders.{searched}
use Rattle.impl_tiles.proofs.picks.place_of.Goals as goal

pub returns : goal.returns
returns c =
    let facts = c.binary_search_by_key.ensures in
    let by_key = facts.position rank_key (answers_always _ _ _ (λ f a r g called. search rules)) in
    subst (IsRankAt c.args.ranks.now c.args.key) (sym c.ok.ensures.value) (searched c.args.ranks.now c.args.key _ c.requires facts.bound by_key)
