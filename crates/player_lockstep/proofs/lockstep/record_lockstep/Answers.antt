-- The run of the script was recorded; or where the beginning takes memory that is not there, nothing was.
use Rattle.std.proofs.Common.{subst}
use Rattle.std.specs.Prelude.{IfOk}
use Rattle.model_history.specs.Accepted.{IsAccepted}
use Rattle.model_history.specs.Lockstep.{IsLockstep}
use Rattle.model_history.specs.Scripts.{ScriptModel}
use Rattle.player_lockstep.specs.Recordings.{Records}
use Rattle.player_lockstep.proofs.RecordedRuns.{records_nothing}
use Rattle.player_lockstep.proofs.lockstep.record_lockstep.Goals as goal

pub returns-in-Ok-clause-bytes : goal.returns-in-Ok-clause-bytes
returns-in-Ok-clause-bytes g c = subst (λ (s : ScriptModel). Records s (g.K.Sink.held c.args.out.now) (g.K.Sink.held c.record_with.new.out) c.record_with.result) c.deref-in-Ok.ensures c.record_with.ensures.bytes

pub returns-in-Ok-clause-history : goal.returns-in-Ok-clause-history
returns-in-Ok-clause-history g c = subst (λ (s : ScriptModel). IfOk c.record_with.result (IsLockstep s)) c.deref-in-Ok.ensures c.record_with.ensures.history

pub returns-clause-bytes : goal.returns-clause-bytes
returns-clause-bytes g c =
    let accepted : IsAccepted c.args.script.value = subst IsAccepted c.deref.ensures c.is_accepted.ensures.accepted in
    records_nothing c.args.script.value (g.K.Sink.held c.args.out.now) accepted
