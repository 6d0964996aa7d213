-- No more are counted than there are.
use Rattle.std.proofs.Common.{◌≡◌, length, filter, take, arith}
use Rattle.std.proofs.lemmas.List.{length-take-le}
use Rattle.tile_queue.proofs.Halves.{few_pass}
use Rattle.impl_tiles.specs.Choices.{stays_for}
use Rattle.impl_tiles.proofs.stays.staying.Goals as goal

pub overflow_add-count : goal.overflow_add-count
overflow_add-count c =
    let passes = stays_for c.args.store.now c.args.pins.now c.args.bin in
    let front = take c.loop-at.at c.args.ranks.now in
    let counted : c.loop-at.count ≡ length (filter passes front) = c.loop-at.invariant in
    let few = few_pass passes front in
    let short = length-take-le c.loop-at.at c.args.ranks.now in
    omega (arith, counted, few, short, c.loop-at-test.true)
