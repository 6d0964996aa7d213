use Rattle.std.proofs.Common.{Some, codes, refl, ap, ◌∙◌}
use Rattle.serde_json.specs.Data.{Data, array, put}
use Rattle.serde_json.specs.View.{members_view}
use Rattle.script_json.specs.declared.read.stream.top.Found.{Found}
use Rattle.script_json.proofs.Streams.{null_view, holds_main}
use Rattle.script_json.proofs.read.stream.top.take_main.Goals as goal

pub returns-clause-taken : goal.returns-clause-taken
returns-clause-taken c =
    let read = c.in_ok-frames.ensures.read in
    let new : Found = record c.args.found.now { members = c.put.new.map; main = Some c.in_ok-frames.frames } in
    let members = c.in_ok-put.ensures.ok ∙ ap (λ (d : Data). put (codes "main") d (members_view c.args.found.now.members.entries)) null_view in
    (array read.0, read.1, holds_main c.args.found.now new c.in_ok-frames.frames read.0 members refl refl read.2 c.in_ok-frames.ensures.few c.in_ok-frames.ensures.short)
