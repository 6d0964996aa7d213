-- The others stand sorted after those in front.
use Rattle.std.proofs.Common.{◌∙◌, List, ◌++◌, ap, sym, subst}
use Rattle.tile_priority.specs.declared.rank.Rank.{Rank}
use Rattle.tile_queue.specs.inner.Waiting.{IsMoved}
use Rattle.tile_queue.proofs.Parting.{moved_all}
use Rattle.tile_queue.proofs.wanted.move_all.Goals as goal

pub returns-clause-moved : goal.returns-clause-moved
returns-clause-moved c =
    let f = c.args.front.now.items in
    let r = c.args.rest.now.items in
    subst (λ (rs : List Rank). IsMoved f r c.append.new.front.items rs) (sym c.clear.ensures.items)
    (moved_all f r c.requires.split c.append.new.front.items c.sort_unstable.new.self.items c.sort_unstable.ensures.permutation c.sort_unstable.ensures.sorted (c.append.ensures.items ∙ ap (λ (rs : List Rank). f ++ rs) c.as_slice.ensures.value))
