use Rattle.std.proofs.Common.{◌≡◌, false, ◌∷◌, ◌++◌, map, drop}
use Rattle.serde_json.specs.View.{items_of}
use Rattle.serde_json.specs.Written.{items_text}
use Rattle.script_json.specs.CommandValues.{command_data}
use Rattle.script_json.proofs.print.commands.push_frame.Given as goal

-- the text so far, before that of the commands that are left, is the text of all
abbrev pub invariant-loop-command : goal.invariant-loop-command
invariant-loop-command l = l.text.items ++ items_text l.later (items_of (map command_data (drop l.command-index l.commands))) ≡ l.fn.text.items ++ 91 ∷ items_text false (items_of (map command_data l.commands))
