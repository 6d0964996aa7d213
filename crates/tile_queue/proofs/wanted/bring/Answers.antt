-- A key that is in front is nowhere else.
use Rattle.tile_queue.proofs.Parting.{elsewhere}
use Rattle.tile_queue.proofs.wanted.bring.Goals as goal

pub returns-in-Some-clause-there : goal.returns-in-Some-clause-there
returns-in-Some-clause-there c = elsewhere c.args.front.now.items c.args.rest.now.items c.requires.split c.args.key c.in-Some.field-0 c.in-Some.ensures
