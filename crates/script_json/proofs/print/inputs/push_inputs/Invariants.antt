use Rattle.std.proofs.Common.{◌≡◌, false, ◌∷◌, ◌++◌, map, drop}
use Rattle.serde_json.specs.View.{items_of}
use Rattle.serde_json.specs.Written.{items_text}
use Rattle.script_json.specs.InputValues.{input_data}
use Rattle.script_json.proofs.print.inputs.push_inputs.Given as goal

-- the text so far, before that of the inputs that are left, is the text of all
abbrev pub invariant-loop-input : goal.invariant-loop-input
invariant-loop-input l = l.text.items ++ items_text l.later (items_of (map input_data (drop l.input-index l.inputs))) ≡ l.fn.text.items ++ 91 ∷ items_text false (items_of (map input_data l.inputs))
