-- What was written is the recording of a history that keeps what is promised, or a prefix of it.
use Rattle.std.proofs.Common.{ℕ, List, subst, sym}
use Rattle.std.specs.Io.KnownBytes.{Appends}
use Rattle.model_history.specs.Accepted.{IsAccepted}
use Rattle.byte_io.specs.Pieces.{GainsPrefix}
use Rattle.player_uses.specs.declared.outcome.Outcome.{Outcome}
use Rattle.player_uses.specs.Outputs.{WritesSome}
use Rattle.player_uses.proofs.Outputs.{fault_cause, fault_some}
use Rattle.player_run.specs.Runs.{IsRunOf}
use Rattle.player_run.proofs.Promised.{promised_run}
use Rattle.player_run.proofs.step.play_lockstep.Goals as goal

pub returns-in-Ok-clause-plays : goal.returns-in-Ok-clause-plays
returns-in-Ok-clause-plays g c =
    let P : List ℕ → Type 0 = Appends (g.K.Sink.held c.args.out.now) (g.K.Sink.held c.record_lockstep.new.out) in
    subst (λ (o : Outcome). WritesSome (IsRunOf c.args.workers c.args.script.value) (g.K.Sink.held c.args.out.now) (g.K.Sink.held c.record_lockstep.new.out) o) (sym c.done_with.ensures)
    (promised_run P c.args.script.value c.args.workers (subst IsAccepted c.deref.ensures c.is_accepted.ensures.accepted) c.requires.0 c.in-Ok.ensures.bytes)

pub returns-in-Err-clause-plays : goal.returns-in-Err-clause-plays
returns-in-Err-clause-plays g c =
    let P : List ℕ → Type 0 = GainsPrefix (g.K.Sink.held c.args.out.now) (g.K.Sink.held c.record_lockstep.new.out) in
    let front = promised_run P c.args.script.value c.args.workers (subst IsAccepted c.deref.ensures c.is_accepted.ensures.accepted) c.requires.0 c.in-Err.ensures.bytes in
    fault_some (IsRunOf c.args.workers c.args.script.value) _ _ front.0 c.in-Err.fault _ c.from.ensures front.1 front.2

pub returns-in-Err-clause-cause : goal.returns-in-Err-clause-cause
returns-in-Err-clause-cause g c = fault_cause (Unit {0}) _ _ c.in-Err.fault _ c.from.ensures c.in-Err.ensures.cause
