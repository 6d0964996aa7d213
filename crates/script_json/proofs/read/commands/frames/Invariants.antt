use Rattle.std.proofs.Common.{◌≡◌, ◌+◌, drop, map, length, true}
use Rattle.serde_json.specs.View.{items_view}
use Rattle.model_history.specs.Ranges.{are_short}
use Rattle.script_json.specs.CommandReading.{frames_at}
use Rattle.script_json.proofs.Behind.{behind}
use Rattle.script_json.proofs.read.commands.frames.Given as goal

-- what was read, before the reading of the rest, is the reading of all; there is a frame for each value so far, and
-- none is too long
abbrev pub invariant-loop-index : goal.invariant-loop-index
invariant-loop-index l =
    (behind (map (λ frame. frame.items) l.frames.items) (frames_at l.version (l.index + 2) (items_view (drop l.index l.values)))
    ≡ frames_at l.version 2 (items_view l.values))
    × (length l.frames.items ≡ l.index)
    × (are_short (map (λ frame. frame.items) l.frames.items) ≡ true)
