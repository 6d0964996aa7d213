-- A search finds what the list has.
use Rattle.std.proofs.Common.{is_ok, sym, ◌∙◌, ap}
use Rattle.impl_tiles.proofs.PinFacts.{found}
use Rattle.impl_tiles.proofs.near.has_searched.Goals as goal

pub returns-in-Ok : goal.returns-in-Ok
returns-in-Ok c =
    let search = c.binary_search.ensures in
    sym (ap is_ok c.in-Ok.is) ∙ found c.args.keys.now c.args.key c.binary_search.result c.requires search.bound search.position

pub returns-in-Err : goal.returns-in-Err
returns-in-Err c =
    let search = c.binary_search.ensures in
    sym (ap is_ok c.in-Err.is) ∙ found c.args.keys.now c.args.key c.binary_search.result c.requires search.bound search.position
