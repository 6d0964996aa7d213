use Rattle.std.proofs.Common.{arith}
use Rattle.tile_queue.proofs.Slots.{free_within, stored_free}
use Rattle.tile_queue.proofs.listed.store.Goals as goal

pub index_mut-requires : goal.index_mut-requires
index_mut-requires g c = omega (arith, free_within c.args.slots.now.items c.args.free.now.items c.pop.new.self.items c.in-Some.slot c.in-Some.ensures.items c.requires.held)

pub returns-in-Some-clause-stored : goal.returns-in-Some-clause-stored
returns-in-Some-clause-stored g c = stored_free c.args.x c.args.slots.now.items c.args.free.now.items c.pop.new.self.items c.in-Some.slot c.in-Some.ensures.items c.requires.held
