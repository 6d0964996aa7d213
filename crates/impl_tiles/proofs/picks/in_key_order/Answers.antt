-- The closure gives the key.
use Rattle.std.proofs.Common.{rules}
use Rattle.std.proofs.lemmas.List.Sorted.{answers_always}
use Rattle.tile_queue.specs.Queues.{rank_key}
use Rattle.impl_tiles.proofs.picks.in_key_order.Goals as goal

pub returns-clause-order : goal.returns-clause-order
returns-clause-order c = c.sort_unstable_by_key.ensures.sorted rank_key (answers_always _ _ _ (λ f a r g called. search rules))
