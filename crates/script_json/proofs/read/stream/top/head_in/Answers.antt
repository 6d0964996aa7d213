use Rattle.std.proofs.Common.{◌≡◌, Ok, sym, ap, ◌∙◌}
use Rattle.serde_json.specs.Data.{object}
use Rattle.serde_json.specs.View.{members_view}
use Rattle.serde_json.proofs.Views.{view-Object}
use Rattle.script_fields.specs.Fields.{no_more_members}
use Rattle.script_json.specs.Reading.{head_at}
use Rattle.script_json.proofs.Streams.{head_known, no_more_known}
use Rattle.script_json.proofs.read.stream.top.head_in.Goals as goal

pub returns-in-Ok-Ok : goal.returns-in-Ok-Ok
returns-in-Ok-Ok c = λ ms same.
    let seen = view-Object c.args.members in
    let head : head_at (object (members_view c.args.members.entries)) ≡ Ok c.in-Ok-Ok.head = ap head_at (sym seen) ∙ sym c.in-Ok-Ok.ensures in
    let no_more : no_more_members 11 (object (members_view c.args.members.entries)) ≡ Ok tt = ap (no_more_members 11) (sym seen) ∙ sym c.in-Ok-Ok.ensures' in
    (head_known ms (members_view c.args.members.entries) c.in-Ok-Ok.head same head, no_more_known ms (members_view c.args.members.entries) same no_more)
