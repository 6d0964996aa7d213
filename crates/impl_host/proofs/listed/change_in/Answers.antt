-- The change at a place of the list is the layer's, or is not.
use Rattle.std.proofs.Common.{◌≡◌, Some, None, sym, ◌∙◌, rules}
use Rattle.std.specs.Prelude.{slice_get}
use Rattle.impl_host.proofs.ListedOnce.{found_here, not_here, none_here}
use Rattle.impl_host.proofs.listed.change_in.Goals as goal
use Rattle.impl_host.proofs.listed.change_in.Goals.{in-Some+else-change-layer, in_default}

pub returns-then-change-layer : goal.returns-then-change-layer
returns-then-change-layer c =
    let at : slice_get c.args.changes.now.list c.loop-i.i ≡ Some c.in-Some.change.now = search rules in
    sym (found_here c.args.changes.now.list c.loop-i.i c.args.layer c.in-Some.change.now at (search rules)) ∙ c.loop-i.invariant

pub loop-i-preserved : goal.loop-i-preserved
loop-i-preserved c = elim c.match-at.branch [
  | in-Some+else-change-layer w ↦
      let at : slice_get c.args.changes.now.list c.loop-i.i ≡ Some w.in-Some.change.now = search rules in
      not_here c.args.changes.now.list c.loop-i.i c.args.layer w.in-Some.change.now at (search rules) ∙ c.loop-i.invariant
  | in_default w ↦
      let at : slice_get c.args.changes.now.list c.loop-i.i ≡ None = search rules in
      none_here c.args.changes.now.list c.loop-i.i c.args.layer at ∙ c.loop-i.invariant
]
