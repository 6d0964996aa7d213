-- A key that is seen at the place is one of the keys.
use Rattle.std.proofs.Common.{◌≡◌, true, false, sym, ◌∙◌, subst}
use Rattle.geom.specs.declared.tile.TileKey.{TileKey}
use Rattle.tile_priority.specs.Ordered.{In}
use Rattle.tile_queue.proofs.Places.{in_at}
use Rattle.impl_tiles.proofs.StoreKeyOrders.{one_by_fields}
use Rattle.geom.proofs.KeyOrders.{key_ties}
use Rattle.impl_tiles.proofs.KeyOrders.{same_fields}
use Rattle.model_history.proofs.KeyFacts.{has_in}
use Rattle.impl_tiles.proofs.near.is_at.Goals as goal

pub returns-in-Some-clause-there : goal.returns-in-Some-clause-there
returns-in-Some-clause-there c = λ same.
    let keys = c.args.keys.now in
    let one : TileKey = c.in-Some.one.now in
    let there = c.in-Some.ensures.lookup.3 in
    let is = one_by_fields one c.args.key (sym c.eq.ensures ∙ same) in
    has_in keys c.args.key (subst (λ q. In q keys) (sym (there.1 one) ∙ is) (in_at keys c.args.at one there.0))

pub returns-in-Some-clause-other : goal.returns-in-Some-clause-other
returns-in-Some-clause-other c = λ differs d lt ties.
    let one : TileKey = c.in-Some.one.now in
    let there = c.in-Some.ensures.lookup.3 in
    let is : one ≡ c.args.key = there.1 d ∙ key_ties _ c.args.key ties in
    let both : true ≡ false = sym (c.eq.ensures ∙ same_fields one c.args.key is) ∙ differs in
    cc
