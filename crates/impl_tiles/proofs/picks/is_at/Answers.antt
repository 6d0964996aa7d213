-- A rank that is seen at the place is there.
use Rattle.std.proofs.Common.{sym, ◌∙◌, ap}
use Rattle.tile_priority.specs.declared.rank.Rank.{Rank}
use Rattle.impl_tiles.proofs.StoreKeyOrders.{one_by_fields}
use Rattle.impl_tiles.proofs.picks.is_at.Goals as goal

pub returns-in-Some : goal.returns-in-Some
returns-in-Some c = λ same.
    let there = c.in-Some.ensures.lookup.3 in
    (there.0, λ d. sym (ap (λ (r : Rank). r.key) (there.1 d)) ∙ one_by_fields c.in-Some.rank.now.key c.args.key (sym c.eq.ensures ∙ same))
