use Rattle.std.proofs.Common.{◌≡◌, ◌++◌, drop}
use Rattle.script_json.specs.inner.Objects.{members_text}
use Rattle.script_json.proofs.print.object.push_members.Given as goal

-- the text so far, before that of the members that are left, is the text of all
abbrev pub invariant-loop-member : goal.invariant-loop-member
invariant-loop-member l = l.text.items ++ members_text l.before (drop l.member-index l.members) ≡ l.initial.text.items ++ members_text l.first l.members
