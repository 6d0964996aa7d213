use Rattle.std.proofs.Common.{Option, Vec, Global, codes, subst}
use Rattle.serde_json.specs.Find.{get_member}
use Rattle.page_layers.specs.declared.command.Command.{Command}
use Rattle.model_history.specs.declared.input.Input.{Input}
use Rattle.model_history.specs.Scripts.{script_of}
use Rattle.script_json.specs.inner.Streamed.{HasMain, HasInputs}
use Rattle.script_json.proofs.Streams.{some_also, script_known}
use Rattle.script_json.proofs.read.stream.top.parts_of.Goals as goal

pub returns-in-Some-Some-Some : goal.returns-in-Some-Some-Some
returns-in-Some-Some-Some c =
    let found = c.in-Some-Some-Some in
    some_also c.parts_with.result _ _ c.parts_with.ensures (λ p are ms so.
    let known = found.ensures ms so.members in
    script_known found.head found.main found.inputs (script_of p) ms
    (subst (λ (o : Option (Vec (Vec Command Global) Global)). HasMain o (get_member (codes "main") ms)) found.is-1 so.main)
    (subst (λ (o : Option (Vec Input Global)). HasInputs o (get_member (codes "inputs") ms)) found.is-2 so.inputs)
    known.0 known.1 are)
