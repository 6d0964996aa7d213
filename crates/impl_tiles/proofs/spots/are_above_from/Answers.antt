-- The first of the chunks tells of all.
use Rattle.std.proofs.Common.{[], subst}
use Rattle.impl_tiles.specs.inner.Chunked.{BeginsAbove}
use Rattle.impl_tiles.proofs.SpotFacts.{above_chunk, nothing_after}
use Rattle.impl_tiles.proofs.spots.are_above_from.Goals as goal

pub returns-in-Some : goal.returns-in-Some
returns-in-Some c = λ told.
    let there = c.in-Some.ensures.lookup.3 in
    above_chunk c.args.chunks.now c.args.key c.args.chunk there.0 c.requires.full c.requires.rises
    (subst (BeginsAbove c.args.key) (there.1 []) (c.begins_above.ensures.above told))

pub returns-in-None : goal.returns-in-None
returns-in-None c = λ _. nothing_after c.args.chunks.now c.args.key c.args.chunk c.in-None.ensures.lookup.3
