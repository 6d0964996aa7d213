use Rattle.std.proofs.Common.{refl}
use Rattle.model_states.specs.declared.kind.Kind.TheVariants as kind
use Rattle.cc_live.proofs.ToldRuns.{stays_played}
use Rattle.cc_live.specs.Lives.{open_of}
use Rattle.cc_live.proofs.MainSides.{side_played}
use Rattle.cc_live.proofs.live.Live.skip.Goals as goal

pub invariant_of-self : goal.invariant_of-self
invariant_of-self c = (
  stays_played c.self.inside.core c.play_plain.new.self kind.Skip c.self.inside.waits c.self.inside.jobs.items c.play_plain.result refl c.play_plain.ensures.plays c.play_plain.ensures.err c.self.invariant.0,
  side_played c.self.inside.core c.play_plain.new.self kind.Skip c.self.inside.main.value (open_of c.self.inside.open_frame) c.play_plain.result refl c.play_plain.ensures.plays c.play_plain.ensures.err c.self.invariant.1,
)
