use Rattle.std.proofs.Common.{List, Vec, Global, length, ap, arith}
use Rattle.std.proofs.lemmas.List.{length-map}
use Rattle.page_layers.specs.declared.command.Command.{Command}
use Rattle.model_history.specs.Scripts.{script_of}
use Rattle.model_history.proofs.Ranged.{has_few_frames}
use Rattle.model_history.proofs.script.Script.new.Goals as goal

pub apply_frames-requires-clause-few : goal.apply_frames-requires-clause-few
apply_frames-requires-clause-few c =
    let f : Vec Command Global → List Command = λ frame. frame.items in
    let few = has_few_frames (script_of c.args.parts) c.requires.ranges in
    let n = length-map c.args.parts.main.items f in
    let e = ap (λ (frames : List (Vec Command Global)). length frames) c.as_slice.ensures.value in
    omega (arith, few, n, e)
