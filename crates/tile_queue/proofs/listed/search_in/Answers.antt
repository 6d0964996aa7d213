use Rattle.std.proofs.Common.{rules, of_calls, get_or}
use Rattle.std.proofs.lemmas.Fn.{always_returns_same}
use Rattle.tile_queue.proofs.listed.search_in.Goals as goal

pub returns-clause-position : goal.returns-clause-position
returns-clause-position g c = c.binary_search_by.ensures.position (λ i. g.T.Ord.cmp (get_or c.args.slots.now i c.args.nothing) c.args.x.now) (always_returns_same _ _ _ (λ a r f k. search (rules, of_calls)))
