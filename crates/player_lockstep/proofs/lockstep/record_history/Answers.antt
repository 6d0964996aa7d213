-- The lines that waited in the recorder wait in the first batch.
use Rattle.std.proofs.Common.{ℕ, List, subst}
use Rattle.serde_json.specs.Written.{compact_text}
use Rattle.model_history.specs.Recordings.{header}
use Rattle.script_json.specs.ScriptValue.{parts_data}
use Rattle.player_lockstep.specs.inner.Ways.{RecordsRest}
use Rattle.player_lockstep.proofs.lockstep.record_history.Goals as goal

pub returns : goal.returns
returns g c =
    subst (λ (waiting : List ℕ). RecordsRest g.K.Sink c.args.script.now (header (compact_text (parts_data c.args.script.now))) waiting c.args.out.now c.record_batches.new.out c.record_batches.new.single.run.entries c.record_batches.result)
    c.take_lines-lines.ensures.lines c.record_batches.ensures
