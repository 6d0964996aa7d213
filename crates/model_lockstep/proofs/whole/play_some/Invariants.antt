-- The inputs that are left lead on, the receiver has what was played, and less is left to play.
use Rattle.std.proofs.Common.{◌≤◌}
use Rattle.model_lockstep.specs.Measures.{to_play}
use Rattle.model_lockstep.specs.Receivers.{StaysOn}
use Rattle.model_lockstep.proofs.whole.play_some.Given as goal

abbrev pub invariant-parts : goal.invariant-parts
invariant-parts g l =
    let first = g.C.Compositor.run l.fn.core in
    record {
      stays : StaysOn l.rest first (g.C.Compositor.run l.core);
      has : (start : g.V.Receiver.Start) → g.V.Receiver.has start first.script first.past l.fn.receiver l.fn.out → g.V.Receiver.has start first.script (g.C.Compositor.run l.core).past l.receiver l.out;
      nearer : to_play l.rest (g.C.Compositor.run l.core) ≤ to_play l.inputs first;
    }

abbrev pub decreases-parts : goal.decreases-parts
decreases-parts g l = to_play l.rest (g.C.Compositor.run l.core)
