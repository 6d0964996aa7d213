-- The end leads on, and the sink gained what was entered but for what waits.
use Rattle.std.proofs.Common.{ℕ, ◌≤◌, List, []}
use Rattle.std.specs.Prelude.{Option}
use Rattle.recording_writer.specs.Batches.{held_of}
use Rattle.recording_writer.specs.Parts.{Half}
use Rattle.impl_log.specs.Runs.{past}
use Rattle.model_lockstep.specs.Measures.{rounds_left}
use Rattle.model_lockstep.specs.Receivers.{StaysOn}
use Rattle.proxy_single_thread.specs.Singles.{walk_of}
use Rattle.player_lockstep.specs.inner.Batches.{run_text}
use Rattle.player_lockstep.proofs.batches.record_end.Given as goal

abbrev pub invariant-rounds : goal.invariant-rounds
invariant-rounds g l = record {
  stays : StaysOn [] (walk_of l.fn.single) (walk_of l.single);
  bytes : (start : Option (List ℕ)) → Half start (g.K.Sink.held l.fn.out) (run_text l.fn.single.run) (held_of l.fn.gathering.batch) → Half start (g.K.Sink.held l.out) (run_text l.single.run) (held_of l.gathering.batch);
  grows : g.K.Sink.faults l.fn.out ≤ g.K.Sink.faults l.out;
}

abbrev pub decreases-rounds : goal.decreases-rounds
decreases-rounds g l = rounds_left l.single.run.script (past l.single.run)
