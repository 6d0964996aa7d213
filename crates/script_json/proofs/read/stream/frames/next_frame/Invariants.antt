use Rattle.std.proofs.Common.{◌≡◌, ◌≤◌, length}
use Rattle.serde_json.specs.Data.{Items}
use Rattle.script_fields.specs.Progress.{ItemsUpTo}
use Rattle.script_json.proofs.Streams.{CommandsTo}
use Rattle.script_json.proofs.read.stream.frames.next_frame.Given as goal

-- the commands so far are those of the values so far
abbrev pub invariant-commands : goal.invariant-commands
invariant-commands l =
    (join : Items → Items) × ItemsUpTo 124 l.initial.reader join l.reader × CommandsTo l.list l.commands.items join
    × (length l.commands.items ≡ l.index) × (l.index ≤ 4294967295)

abbrev pub decreases-commands : goal.decreases-commands
decreases-commands l = length l.reader
