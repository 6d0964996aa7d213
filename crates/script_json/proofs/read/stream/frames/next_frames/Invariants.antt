use Rattle.std.proofs.Common.{◌≡◌, ◌+◌, ◌≤◌, length, map, true}
use Rattle.serde_json.specs.Data.{Items}
use Rattle.model_history.specs.Ranges.{are_short}
use Rattle.script_fields.specs.Progress.{ItemsUpTo}
use Rattle.script_json.proofs.Streams.{FramesTo}
use Rattle.script_json.proofs.read.stream.frames.next_frames.Given as goal

-- the main frames so far are those of the values so far, and none is too long
abbrev pub invariant-frames : goal.invariant-frames
invariant-frames l =
    (join : Items → Items) × ItemsUpTo 125 l.initial.reader join l.reader × FramesTo (map (λ frame. frame.items) l.frames.items) join
    × (length l.frames.items + 2 ≡ l.list) × (l.list ≤ 4098) × (are_short (map (λ frame. frame.items) l.frames.items) ≡ true)

abbrev pub decreases-frames : goal.decreases-frames
decreases-frames l = length l.reader
