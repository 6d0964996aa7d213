use Rattle.std.proofs.Common.{◌≡◌, false, ◌∷◌, ◌++◌, map, drop}
use Rattle.serde_json.specs.View.{items_of}
use Rattle.serde_json.specs.Written.{items_text}
use Rattle.script_json.specs.CommandValues.{frame_data}
use Rattle.script_json.proofs.print.parts.push_main.Given as goal

-- the text so far, before that of the frames that are left, is the text of all
abbrev pub invariant-loop-frame : goal.invariant-loop-frame
invariant-loop-frame l = l.text.items ++ items_text l.later (items_of (map frame_data (map (λ frame. frame.items) (drop l.frame-index l.frames)))) ≡ l.fn.text.items ++ 91 ∷ items_text false (items_of (map frame_data (map (λ frame. frame.items) l.frames)))
