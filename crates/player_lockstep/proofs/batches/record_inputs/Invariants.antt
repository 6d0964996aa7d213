-- The inputs that are left lead on, and the sink gained what was entered but for what waits.
use Rattle.std.proofs.Common.{ℕ, ◌≤◌, List}
use Rattle.std.specs.Prelude.{Option}
use Rattle.recording_writer.specs.Batches.{held_of}
use Rattle.model_lockstep.specs.Measures.{to_play}
use Rattle.model_lockstep.specs.Receivers.{StaysOn}
use Rattle.proxy_single_thread.specs.Singles.{walk_of}
use Rattle.player_lockstep.specs.inner.Batches.{run_text}
use Rattle.recording_writer.specs.Parts.{Half}
use Rattle.player_lockstep.proofs.batches.record_inputs.Given as goal

abbrev pub invariant-loop-rest : goal.invariant-loop-rest
invariant-loop-rest g l = record {
  stays : StaysOn l.rest (walk_of l.fn.single) (walk_of l.single);
  bytes : (start : Option (List ℕ)) → Half start (g.K.Sink.held l.fn.out) (run_text l.fn.single.run) (held_of l.fn.gathering.batch) → Half start (g.K.Sink.held l.out) (run_text l.single.run) (held_of l.gathering.batch);
  grows : g.K.Sink.faults l.fn.out ≤ g.K.Sink.faults l.out;
}

abbrev pub decreases-loop-rest : goal.decreases-loop-rest
decreases-loop-rest g l = to_play l.rest (walk_of l.single)
