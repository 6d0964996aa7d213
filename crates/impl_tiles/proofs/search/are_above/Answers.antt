-- The key at the index tells of those after it.
use Rattle.std.proofs.Common.{sym, ◌∙◌, ap}
use Rattle.geom.specs.KeyOrder.{key_cmp}
use Rattle.impl_tiles.specs.declared.held.KeyedPlace.{KeyedPlace}
use Rattle.impl_tiles.proofs.StoreKeyOrders.{told_less}
use Rattle.impl_tiles.proofs.Searches.{above_from}
use Rattle.impl_tiles.proofs.search.are_above.Goals as goal

pub returns-in-Some : goal.returns-in-Some
returns-in-Some c = λ told.
    let there = c.in-Some.ensures.lookup.3 in
    above_from c.args.held.now c.args.key c.args.at c.requires
    (λ d lt. ap (λ (h : KeyedPlace). key_cmp c.args.key h.key) (sym (there.1 d)) ∙ sym c.cmp.ensures ∙ told_less c.cmp.result (sym c.eq.ensures ∙ told))
