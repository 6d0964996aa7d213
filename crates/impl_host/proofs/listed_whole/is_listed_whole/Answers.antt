-- The change at a place of the list is of the whole layer, or is not.
use Rattle.std.proofs.Common.{◌≡◌, true, false, Some, None, sym, ◌∙◌, rules}
use Rattle.std.specs.Prelude.{slice_get}
use Rattle.impl_host.proofs.ListedWhole.{is_whole, found_here, not_here, none_here}
use Rattle.impl_host.proofs.listed_whole.is_listed_whole.Goals as goal
use Rattle.impl_host.proofs.listed_whole.is_listed_whole.Goals.{in-Some+else-is_whole, in_default}

pub returns-then-is_whole : goal.returns-then-is_whole
returns-then-is_whole c =
    let at : slice_get c.args.changes.now.list c.loop-i.i ≡ Some c.in-Some.change.now = search rules in
    let whole : is_whole c.in-Some.change.now c.args.layer ≡ true = search rules in
    sym (found_here c.args.changes.now.list c.loop-i.i c.args.layer c.in-Some.change.now at whole) ∙ c.loop-i.invariant

pub loop-i-preserved : goal.loop-i-preserved
loop-i-preserved c = elim c.match-at.branch [
  | in-Some+else-is_whole w ↦
      let at : slice_get c.args.changes.now.list c.loop-i.i ≡ Some w.in-Some.change.now = search rules in
      let part : is_whole w.in-Some.change.now c.args.layer ≡ false = search rules in
      not_here c.args.changes.now.list c.loop-i.i c.args.layer w.in-Some.change.now at part ∙ c.loop-i.invariant
  | in_default w ↦
      let at : slice_get c.args.changes.now.list c.loop-i.i ≡ None = search rules in
      none_here c.args.changes.now.list c.loop-i.i c.args.layer at ∙ c.loop-i.invariant
]
