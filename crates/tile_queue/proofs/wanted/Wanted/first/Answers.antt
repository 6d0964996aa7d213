-- The best in front is the best of all.
use Rattle.std.proofs.Common.{◌≡◌, ◌+◌, length, get_or, subst, arith}
use Rattle.std.specs.Prelude.{IfSome}
use Rattle.tile_priority.specs.declared.rank.Rank.{Rank}
use Rattle.tile_queue.specs.inner.Listing.{Listing}
use Rattle.tile_queue.proofs.Parting.{some_front, first_of_all, split_length}
use Rattle.tile_queue.proofs.wanted.Wanted.first.Goals as goal

pub returns-clause-variant : goal.returns-clause-variant
returns-clause-variant c =
    let f = c.self.inside.front.items in
    let r = c.self.inside.rest.items in
    let n : length c.args.self.now.items ≡ length f + length r = subst (λ (z : Listing Rank). length z.items ≡ length f + length r) c.self.view_is (split_length f r c.self.invariant.split) in
    (λ s. let a = c.front.ensures.variant.0 s in omega (arith, n, a), λ l. c.front.ensures.variant.1 (some_front (length f) (length r) c.self.invariant.best (omega (arith, n, l))))

pub returns-clause-lookup : goal.returns-clause-lookup
returns-clause-lookup c =
    subst (λ (z : Listing Rank). IfSome c.front.result (λ x. x ≡ get_or z.items 0 x)) c.self.view_is
    (first_of_all c.self.inside.front.items c.self.inside.rest.items c.self.invariant.split c.front.result c.front.ensures.variant.0 c.front.ensures.lookup)
