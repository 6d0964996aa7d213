-- Nothing has come yet.
use Rattle.std.proofs.Common.{[], subst}
use Rattle.model_history.specs.Scripts.{ScriptModel}
use Rattle.recording_judge.specs.inner.Mains.{IsMain}
use Rattle.recording_judge.proofs.StateFacts.{state_begins}
use Rattle.recording_judge.proofs.state.State.new.Goals as goal

pub returns-clause-state : goal.returns-clause-state
returns-clause-state c =
    state_begins c.in_ok-log.log c.args.script.value c.args.workers c.new-3.result c.in_ok-tiles.tiles c.new-main.result c.in_ok-log.ensures (c.new-3.ensures c.args.script.value) (c.in_ok-tiles.ensures c.args.script.value)
    (subst (λ (s : ScriptModel). IsMain s [] c.new-main.result) c.in_ok-try_clone.ensures c.new-main.ensures)
