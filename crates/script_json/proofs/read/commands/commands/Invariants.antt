use Rattle.std.proofs.Common.{◌≡◌, drop, length}
use Rattle.serde_json.specs.View.{items_view}
use Rattle.script_json.specs.CommandReading.{commands_at}
use Rattle.script_json.proofs.Behind.{behind}
use Rattle.script_json.proofs.read.commands.commands.Given as goal

-- what was read, before the reading of the rest, is the reading of all; there is a command for each value so far
abbrev pub invariant-loop-index : goal.invariant-loop-index
invariant-loop-index l =
    (behind l.commands.items (commands_at l.version l.list l.index (items_view (drop l.index l.values)))
    ≡ commands_at l.version l.list 0 (items_view l.values))
    × (length l.commands.items ≡ l.index)
