use Rattle.std.proofs.Common.{◌≡◌, true, arith, rules}
use Rattle.tile_priority.specs.Alike.{is_of}
use Rattle.tile_queue.proofs.Halves.{found_first, found_none}
use Rattle.tile_queue.proofs.wanted.place_of.Goals as goal

pub returns-then-eq : goal.returns-then-eq
returns-then-eq c =
    let t : is_of c.args.key c.get.result ≡ true = search rules in
    found_first (is_of c.args.key) c.args.front.now.items c.loop-at.at c.get.result c.loop-at.invariant (omega arith) c.get.ensures t

pub returns : goal.returns
returns c = found_none (is_of c.args.key) c.args.front.now.items c.loop-at.at c.loop-at.invariant (omega arith)
