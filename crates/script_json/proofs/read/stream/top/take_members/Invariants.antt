use Rattle.std.proofs.Common.{length}
use Rattle.serde_json.specs.Data.{Members}
use Rattle.script_fields.specs.Progress.{MembersUpTo}
use Rattle.script_json.specs.inner.Streamed.{Holds}
use Rattle.script_json.proofs.read.stream.top.take_members.Given as goal

-- what was found is that of the members so far
abbrev pub invariant-members : goal.invariant-members
invariant-members l = (ms : Members) × MembersUpTo 126 l.initial.reader ms l.reader × Holds l.found ms

abbrev pub decreases-members : goal.decreases-members
decreases-members l = length l.reader
