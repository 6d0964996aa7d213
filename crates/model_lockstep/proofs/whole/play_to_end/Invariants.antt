-- The end leads on, the receiver has what was played, and fewer rounds are left.
use Rattle.std.proofs.Common.{[], ◌≤◌}
use Rattle.model_lockstep.specs.Measures.{rounds_left}
use Rattle.model_lockstep.specs.Receivers.{StaysOn}
use Rattle.model_lockstep.proofs.whole.play_to_end.Given as goal

abbrev pub invariant-rounds : goal.invariant-rounds
invariant-rounds g l =
    let first = g.C.Compositor.run l.fn.core in
    let now = g.C.Compositor.run l.core in
    record {
      stays : StaysOn [] first now;
      has : (start : g.V.Receiver.Start) → g.V.Receiver.has start first.script first.past l.fn.receiver l.fn.out → g.V.Receiver.has start first.script now.past l.receiver l.out;
      fewer : rounds_left now.script now.past ≤ rounds_left first.script first.past;
    }

abbrev pub decreases-rounds : goal.decreases-rounds
decreases-rounds g l = let now = g.C.Compositor.run l.core in rounds_left now.script now.past
