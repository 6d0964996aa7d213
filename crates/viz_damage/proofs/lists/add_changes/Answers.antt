-- The fronts fit as the lists do, and the ends act alike.
use Rattle.std.proofs.Common.{◌-◌, List, length, take, sym, subst}
use Rattle.std.specs.Prelude.{All}
use Rattle.viz_scene.specs.declared.Quad.{Quad}
use Rattle.viz_scene.specs.Views.{quads_view}
use Rattle.viz_scene.specs.Sound.{QuadFits}
use Rattle.viz_damage.specs.inner.Alike.{DifferWithin}
use Rattle.viz_damage.proofs.ListSteps.{fit_front, ends_joined}
use Rattle.viz_damage.proofs.lists.add_changes.Goals as goal

pub add_front_changes-requires-clause-old : goal.add_front_changes-requires-clause-old
add_front_changes-requires-clause-old c =
    subst (λ (qs : List Quad). All (QuadFits 2048 2048 (length c.args.reaches.now)) (quads_view qs)) (sym c.split_at.ensures.front)
    (fit_front (length c.args.reaches.now) c.args.old.now _ c.requires.old)

pub add_front_changes-requires-clause-new : goal.add_front_changes-requires-clause-new
add_front_changes-requires-clause-new c =
    subst (λ (qs : List Quad). All (QuadFits 2048 2048 (length c.args.reaches.now)) (quads_view qs)) (sym c.split_at-2.ensures.front)
    (fit_front (length c.args.reaches.now) c.args.new.now _ c.requires.new)

pub returns-clause-changes : goal.returns-clause-changes
returns-clause-changes c =
    let first =
    subst (λ (qs : List Quad). DifferWithin c.args.reaches.now c.add_front_changes.new.damage.items (quads_view qs) (quads_view c.split_at-2.result.0.now)) c.split_at.ensures.front
    c.in_ok-add_front_changes.ensures.changes in
    ends_joined c.args.reaches.now c.add_front_changes.new.damage.items c.args.old.now c.args.new.now _ _ c.common_end-end.ensures.alike
    (subst (λ (qs : List Quad). DifferWithin c.args.reaches.now c.add_front_changes.new.damage.items (quads_view (take (length c.args.old.now - c.common_end-end.result) c.args.old.now)) (quads_view qs)) c.split_at-2.ensures.front first)
