-- The best stand in front, and all others in order after them.
use Rattle.std.proofs.Common.{◌≡◌, List, ◌++◌, ◌∙◌, take, ap, subst, arith}
use Rattle.std.specs.List.Sorted.{IsPermutation}
use Rattle.std.proofs.lemmas.List.{take_all}
use Rattle.tile_priority.specs.declared.rank.Rank.{Rank}
use Rattle.tile_queue.specs.inner.Listing.{Listing}
use Rattle.tile_queue.proofs.Parting.{split_take, sorted_is}
use Rattle.tile_queue.proofs.RoomFor.{if_ok}
use Rattle.tile_queue.proofs.wanted.Wanted.best.Goals as goal

pub returns-then-most-len : goal.returns-then-most-len
returns-then-most-len c =
    let t = split_take c.self.inside.front.items c.self.inside.rest.items c.self.invariant.split c.args.most (omega (arith, c.if-most-len.true, c.len.ensures)) in
    if_ok c.first_of.result (λ ranks e. e ∙ (t ∙ ap (λ (z : Listing Rank). take c.args.most z.items) c.self.view_is)) c.first_of.ensures

pub returns : goal.returns
returns c =
    let f = c.self.inside.front.items in
    let r = c.self.inside.rest.items in
    let whole : c.in_ok-ranks.ranks.items ≡ f = c.in_ok-ranks.ensures ∙ take_all c.args.most f (omega (arith, c.if-most-len.false, c.len.ensures)) in
    let both : c.extend_from_slice.new.self.items ≡ f ++ r = c.in_ok-extend_from_slice.ensures.items ∙ (λ i. whole i ++ c.as_slice.ensures.value i) in
    let p = subst (λ (rs : List Rank). IsPermutation rs c.sort_unstable.new.self.items) both c.sort_unstable.ensures.permutation in
    let s = sorted_is (f ++ r) c.sort_unstable.new.self.items p c.sort_unstable.ensures.sorted c.self.invariant.split.once in
    c.truncate.ensures.items ∙ ap (take c.args.most) s ∙ ap (λ (z : Listing Rank). take c.args.most z.items) c.self.view_is
