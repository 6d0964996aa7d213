use Rattle.cc_live.specs.Lives.{open_of}
use Rattle.cc_live.proofs.ToldRuns.{done_live}
use Rattle.cc_live.proofs.MainSides.{side_done}
use Rattle.cc_live.proofs.live.Live.hand_in.Goals as goal

pub invariant_of-self : goal.invariant_of-self
invariant_of-self c = (
  done_live c.self.inside.core c.done.new.self c.self.inside.waits c.self.inside.jobs.items c.put.new.slots.items c.args.made.slot c.args.made.image.value.key c.done.ensures c.put.ensures c.self.invariant.0,
  side_done c.self.inside.core c.done.new.self c.args.made.slot c.args.made.image.value.key c.self.inside.main.value (open_of c.self.inside.open_frame) c.done.ensures c.self.invariant.1,
)
