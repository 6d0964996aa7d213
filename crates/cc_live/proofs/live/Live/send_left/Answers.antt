use Rattle.cc_live.specs.Lives.{open_of}
use Rattle.cc_live.proofs.MainEnds.{both_sent}
use Rattle.cc_live.proofs.live.Live.send_left.Goals as goal

pub invariant_of-self : goal.invariant_of-self
invariant_of-self c =
    both_sent c.self.inside.core c.play_next.new.core c.self.inside.waits c.self.inside.jobs.items c.self.inside.main.value (open_of c.self.inside.open_frame) c.play_next.result
    c.play_next.ensures.ok c.play_next.ensures.legal c.play_next.ensures.err c.self.invariant
