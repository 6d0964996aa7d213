use Rattle.std.proofs.Common.{◌≡◌, ◌≤◌, drop}
use Rattle.serde_json.specs.View.{items_view}
use Rattle.script_json.specs.InputReading.{inputs_at}
use Rattle.script_json.proofs.Behind.{behind}
use Rattle.script_json.proofs.read.inputs.inputs.Given as goal

-- what was read, before the reading of the rest, is the reading of all
abbrev pub invariant-loop-index : goal.invariant-loop-index
invariant-loop-index l =
    (behind l.inputs.items (inputs_at l.frames l.draws l.index (items_view (drop l.index l.values)))
    ≡ inputs_at l.frames 0 0 (items_view l.values))
    × (l.draws ≤ l.index)
