-- The key before the index tells of those before it.
use Rattle.std.proofs.Common.{◌≡◌, ◌-◌, suc, take, sym, ◌∙◌, ap, subst, arith}
use Rattle.geom.specs.KeyOrder.{key_cmp}
use Rattle.impl_tiles.specs.declared.held.KeyedPlace.{KeyedPlace}
use Rattle.impl_tiles.specs.inner.TileTables.{Before}
use Rattle.impl_tiles.proofs.StoreKeyOrders.{told_less}
use Rattle.impl_tiles.proofs.Searches.{below_before}
use Rattle.impl_tiles.proofs.search.are_below.Goals as goal

pub returns-in-Some-clause-before : goal.returns-in-Some-clause-before
returns-in-Some-clause-before c = λ told.
    let there = c.in-Some.ensures.lookup.3 in
    let held = c.args.held.now in
    let here : suc (c.args.at - 1) ≡ c.args.at = omega (arith, c.if-at-eq0.false) in
    subst (λ n. Before c.args.key (take n held)) here
    (below_before held c.args.key (c.args.at - 1) c.requires there.0
    (λ d. ap (λ (h : KeyedPlace). key_cmp h.key c.args.key) (sym (there.1 d)) ∙ sym c.cmp.ensures ∙ told_less c.cmp.result (sym c.eq.ensures ∙ told)))
