use Rattle.cc_live.proofs.ToldRuns.{stays_drawn}
use Rattle.cc_live.specs.Lives.{open_of}
use Rattle.cc_live.proofs.MainSides.{side_drawn}
use Rattle.cc_live.proofs.live.Live.draw.Goals as goal

pub invariant_of-self : goal.invariant_of-self
invariant_of-self c = (
  stays_drawn c.self.inside.core c.draw.new.self c.self.inside.waits c.self.inside.jobs.items c.draw.result c.draw.ensures.draws c.draw.ensures.err c.self.invariant.0,
  side_drawn c.self.inside.core c.draw.new.self c.self.inside.main.value (open_of c.self.inside.open_frame) c.draw.result c.draw.ensures.draws c.draw.ensures.err c.self.invariant.1,
)
