-- The moves added so far are the first ones.
use Rattle.std.proofs.Common.{◌≡◌, ◌++◌, take}
use Rattle.std.specs.List.{flat_map}
use Rattle.model_history.specs.Texts.{fields_text, move_fields}
use Rattle.recording_text.proofs.line.push_moves.Given as goal

abbrev pub invariant-loop-one : goal.invariant-loop-one
invariant-loop-one l = l.text.items ≡ l.fn.text.items ++ fields_text (flat_map move_fields (take l.one-index l.one-items))
