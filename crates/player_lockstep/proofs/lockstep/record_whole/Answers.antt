-- The lines before the events, and then the events.
use Rattle.std.proofs.Common.{ℕ, List, ap, ◌∙◌, arith, subst}
use Rattle.std.specs.Prelude.{⊤}
use Rattle.byte_io.specs.Pieces.{GainsPrefix}
use Rattle.model_history.specs.Recordings.{header}
use Rattle.recording_writer.specs.declared.last_draw.LastDraw.{LastDraw}
use Rattle.recording_writer.specs.Parts.{Half}
use Rattle.thread_pieces.proofs.Gains.{blames_from}
use Rattle.player_lockstep.proofs.RecordedRuns.{records_front}
use Rattle.player_lockstep.proofs.lockstep.record_whole.Goals as goal

pub record_history-requires-clause-none : goal.record_history-requires-clause-none
record_history-requires-clause-none g c κs within = ap (λ (last : LastDraw). last.place) c.in-Ok.ensures.last ∙ c.requires.none

pub record_history-requires-clause-half : goal.record_history-requires-clause-half
record_history-requires-clause-half g c κs within = (
  g.K.Sink.held c.args.out.now,
  subst (λ (text : List ℕ). Half (g.K.Sink.held c.args.out.now) (g.K.Sink.held c.begin-begun.new.out) (header text) c.begin-begun.new.self.lines.items)
      (c.as_slice.ensures.value ∙ c.requires.text) c.in-Ok.ensures.bytes,
)

pub returns-in-Ok : goal.returns-in-Ok
returns-in-Ok g c =
    let rest = c.record_history.ensures in
    record {
      bytes =
          rest.bytes (g.K.Sink.held c.args.out.now)
          (subst (λ (text : List ℕ). Half (g.K.Sink.held c.args.out.now) (g.K.Sink.held c.begin-begun.new.out) (header text) c.begin-begun.new.self.lines.items)
          (c.as_slice.ensures.value ∙ c.requires.text) c.in-Ok.ensures.bytes);
      history = rest.history;
      grows = omega (arith, c.begin-begun.ensures.grows, rest.grows);
      cause = blames_from {X = ⊤} (g.K.Sink.faults c.args.out.now) (g.K.Sink.faults c.begin-begun.new.out) (g.K.Sink.faults c.record_history.new.out) c.record_history.result c.begin-begun.ensures.grows rest.cause;
    }

pub returns-in-Err : goal.returns-in-Err
returns-in-Err g c = record {
  bytes =
      records_front c.args.script.now _ _ c.is_accepted.ensures.accepted
      (subst (λ (text : List ℕ). GainsPrefix (g.K.Sink.held c.args.out.now) (g.K.Sink.held c.begin-begun.new.out) (header text)) (c.as_slice.ensures.value ∙ c.requires.text) c.in-Err.ensures.bytes);
  history = tt;
  grows = c.begin-begun.ensures.grows;
  cause = c.in-Err.ensures.cause;
}
