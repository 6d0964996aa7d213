use Rattle.std.proofs.Common.{◌≡◌, Some, None, ap, arith}
use Rattle.json.specs.Json.{read_key}
use Rattle.serde_json.specs.Data.{no_members, put}
use Rattle.serde_json.specs.View.{members_view}
use Rattle.script_fields.proofs.Progress.{members_begin, members_more, members_end, members_refused, names_refused}
use Rattle.script_json.proofs.read.stream.top.take_members.Goals as goal

pub members-init : goal.members-init
members-init c = (no_members, members_begin 126 c.args.reader.now, record { members = ap members_view c.new.ensures.empty; main = tt; inputs = tt })

pub members-preserved : goal.members-preserved
members-preserved c =
    let l = c.members in
    let k = c.in-Some.name.now in
    let s = c.next_key.new.self in
    let named : read_key l.reader ≡ Some (Some k, s) = grind arith in
    let one = c.in_ok-take_member.ensures.taken in (
      put k one.0 l.invariant.0,
      members_more 126 c.args.reader.now l.invariant.0 l.reader s c.take_member.new.reader k one.0 l.invariant.1 named one.1 c.in_ok-take_member.ensures.shorter,
      one.2 l.invariant.0 l.invariant.2,
    )

pub returns-clause-read : goal.returns-clause-read
returns-clause-read c =
    let l = c.members in
    let over : read_key l.reader ≡ Some (None, c.next_key.new.self) = grind arith in
    (l.invariant.0, (members_end 126 c.args.reader.now l.invariant.0 l.reader c.next_key.new.self l.invariant.1 over).0, l.invariant.2)

pub returns-in_err-name-clause-refused : goal.returns-in_err-name-clause-refused
returns-in_err-name-clause-refused c json =
    let l = c.members in
    names_refused 126 c.args.reader.now l.invariant.0 l.reader l.invariant.1 c.in_err-name.ensures.value

pub returns-in_err-take_member-clause-refused : goal.returns-in_err-take_member-clause-refused
returns-in_err-take_member-clause-refused c json =
    let l = c.members in
    let k = c.in-Some.name.now in
    let s = c.next_key.new.self in
    let named : read_key l.reader ≡ Some (Some k, s) = grind arith in
    members_refused 126 c.args.reader.now l.invariant.0 l.reader s k l.invariant.1 named (c.take_member.ensures.refused (grind arith))
