-- The quads that are left are gone and have come.
use Rattle.std.proofs.Common.{◌≡◌, ◌+◌, ◌-◌, ◌≤◌, length, take, arith}
use Rattle.viz_scene.specs.Views.{quads_view}
use Rattle.viz_damage.proofs.ListSteps.{changed, differ_all}
use Rattle.viz_damage.proofs.lists.add_front_changes.Goals as goal

pub returns-clause-changes : goal.returns-clause-changes
returns-clause-changes c =
    let i = c.loop-i.i in
    let j = c.loop-i.j in
    let low : c.loop-i.i ≤ length c.args.old.now = c.loop-i.invariant.old in
    let less : c.loop-i.j ≤ length c.args.new.now = c.loop-i.invariant.new in
    let olds : length c.args.old.now ≡ c.loop-i.i + (length c.args.old.now - c.loop-i.i) = omega arith in
    let news : length c.args.new.now ≡ c.loop-i.j + (length c.args.new.now - c.loop-i.j) = omega arith in
    differ_all c.args.reaches.now c.add_areas-2.new.damage.items c.args.old.now c.args.new.now _ _ olds news
    (changed c.args.reaches.now c.loop-i.damage.items c.add_areas.new.damage.items c.add_areas-2.new.damage.items (take i (quads_view c.args.old.now))
    (take (c.loop-i.i + (length c.args.old.now - c.loop-i.i)) (quads_view c.args.old.now))
    (take j (quads_view c.args.new.now)) (take (c.loop-i.j + (length c.args.new.now - c.loop-i.j)) (quads_view c.args.new.now))
    c.in_ok-add_areas.ensures.held c.in_ok-add_areas-2.ensures.held c.loop-i.invariant.changes
    c.in_ok-add_areas.ensures.changes c.in_ok-add_areas-2.ensures.changes)
