use Rattle.std.proofs.Common.{◌≡◌, ◌≤◌, length}
use Rattle.serde_json.specs.Data.{Items}
use Rattle.script_fields.specs.Progress.{ItemsUpTo}
use Rattle.script_json.proofs.Streams.{InputsTo}
use Rattle.script_json.proofs.read.stream.inputs.next_inputs.Given as goal

-- the inputs so far are those of the values so far, with at most one draw each
abbrev pub invariant-inputs : goal.invariant-inputs
invariant-inputs l =
    (join : Items → Items) × ItemsUpTo 125 l.initial.reader join l.reader × InputsTo l.draws l.inputs.items join
    × (length l.inputs.items ≡ l.index) × (l.index ≤ 65536) × (l.draws ≤ l.index)

abbrev pub decreases-inputs : goal.decreases-inputs
decreases-inputs l = length l.reader
