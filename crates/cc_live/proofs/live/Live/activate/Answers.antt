use Rattle.std.proofs.Common.{refl}
use Rattle.model_states.specs.declared.kind.Kind.TheVariants as kind
use Rattle.cc_live.proofs.ToldRuns.{stays_played}
use Rattle.cc_live.specs.Lives.{open_of}
use Rattle.cc_live.proofs.MainSides.{side_played}
use Rattle.cc_live.proofs.live.Live.activate.Goals as goal

pub invariant_of-self : goal.invariant_of-self
invariant_of-self c = (
  stays_played c.self.inside.core c.activate.new.self kind.Activate c.self.inside.waits c.self.inside.jobs.items c.activate.result refl c.activate.ensures.plays c.activate.ensures.err c.self.invariant.0,
  side_played c.self.inside.core c.activate.new.self kind.Activate c.self.inside.main.value (open_of c.self.inside.open_frame) c.activate.result refl c.activate.ensures.plays c.activate.ensures.err c.self.invariant.1,
)
