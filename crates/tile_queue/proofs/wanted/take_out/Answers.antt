use Rattle.std.proofs.Common.{◌∙◌, sym}
use Rattle.tile_queue.proofs.Forgotten.{removed_is, absent_is}
use Rattle.tile_queue.proofs.wanted.take_out.Goals as goal

pub returns-in-Some-clause-items : goal.returns-in-Some-clause-items
returns-in-Some-clause-items c =
    let e = removed_is c.args.key c.args.front.now.items c.in-Some.at c.requires c.in-Some.ensures in
    c.remove.ensures.items ∙ e

pub returns-in_default-clause-items : goal.returns-in_default-clause-items
returns-in_default-clause-items c = absent_is c.args.key c.args.front.now.items (sym c.in_default.ensures)
