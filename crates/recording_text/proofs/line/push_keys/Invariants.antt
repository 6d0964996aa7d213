-- The keys added so far are the first ones.
use Rattle.std.proofs.Common.{◌≡◌, ◌++◌, take}
use Rattle.std.specs.List.{flat_map}
use Rattle.model_history.specs.Texts.{fields_text, key_fields}
use Rattle.recording_text.proofs.line.push_keys.Given as goal

abbrev pub invariant-loop-key : goal.invariant-loop-key
invariant-loop-key l = l.text.items ≡ l.fn.text.items ++ fields_text (flat_map key_fields (take l.key-index l.key-items))
