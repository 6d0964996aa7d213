-- The rank stands among the best or among the others.
use Rattle.std.proofs.Common.{Some, subst}
use Rattle.tile_priority.specs.declared.rank.Rank.{Rank}
use Rattle.tile_queue.specs.inner.Listing.{Listing}
use Rattle.tile_queue.specs.inner.Waiting.{IsRankOf}
use Rattle.tile_queue.proofs.Parting.{rank_of_front, rank_of_rest}
use Rattle.tile_queue.proofs.wanted.Wanted.rank_of.Goals as goal

pub returns-in-None : goal.returns-in-None
returns-in-None c =
    subst (λ (z : Listing Rank). IsRankOf z.items c.args.key c.rank_in.result) c.self.view_is
    (rank_of_rest c.self.inside.front.items c.self.inside.rest.items c.args.key c.in-None.ensures c.rank_in.result (subst (λ rs. IsRankOf rs c.args.key c.rank_in.result) c.as_slice.ensures.value c.rank_in.ensures))

pub returns-in-Some : goal.returns-in-Some
returns-in-Some c =
    subst (λ (z : Listing Rank). IsRankOf z.items c.args.key (Some c.get.result)) c.self.view_is
    (rank_of_front c.self.inside.front.items c.self.inside.rest.items c.args.key c.in-Some.at c.get.result c.in-Some.ensures c.get.ensures)
