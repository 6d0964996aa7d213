-- The inputs that are left lead on, and the receiver has what the others brought.
use Rattle.model_lockstep.specs.Measures.{to_play}
use Rattle.model_lockstep.specs.Receivers.{StaysOn}
use Rattle.model_lockstep.proofs.whole.play_all.Given as goal

abbrev pub invariant-inputs : goal.invariant-inputs
invariant-inputs g l =
    let first = g.C.Compositor.run l.fn.core in
    record {
      stays : StaysOn l.rest first (g.C.Compositor.run l.core);
      has : (start : g.V.Receiver.Start) → g.V.Receiver.has start first.script first.past l.fn.receiver l.fn.out → g.V.Receiver.has start first.script (g.C.Compositor.run l.core).past l.receiver l.out;
    }

abbrev pub decreases-inputs : goal.decreases-inputs
decreases-inputs g l = to_play l.rest (g.C.Compositor.run l.core)
