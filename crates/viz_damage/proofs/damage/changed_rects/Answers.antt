-- One pass more is compared.
use Rattle.std.proofs.Common.{◌≡◌, ◌<◌, ◌+◌, ap, List, length, take, sym, ◌∙◌, subst, arith}
use Rattle.geom.specs.declared.Rect.{Rect}
use Rattle.viz_scene.specs.declared.RenderPass.{RenderPass}
use Rattle.viz_scene.specs.Views.{passes_view}
use Rattle.viz_damage.proofs.PassSteps.{AreCompared, so_many, pass_fits, compared_more, compared_none, compared_all}
use Rattle.viz_damage.proofs.damage.changed_rects.Goals as goal

pub loop-i-init : goal.loop-i-init
loop-i-init c = rw (c.new-reaches.ensures.items, c.new-damage.ensures.items) (compared_none (passes_view c.args.old.now) (passes_view c.args.new.now))

pub reach_of-reach-requires-clause-fits : goal.reach_of-reach-requires-clause-fits
reach_of-reach-requires-clause-fits c =
    let before : c.as_slice-before.result.now ≡ c.index-old-i.result.quads.items = c.as_slice-before.ensures.value ∙ ap (λ (p : RenderPass). p.quads.items) (sym c.index-old-i.is) in
    rw (before, c.as_slice-seen.ensures.value)
    (pass_fits c.args.old.now c.loop-i.i (length c.loop-i.reaches.items) c.index-old-i.result c.requires.old c.loop-i-test.true c.index-old-i.is
    (so_many c.args.old.now c.loop-i.i (length c.loop-i.reaches.items) c.loop-i-test.true c.loop-i.invariant.count))

pub add_changes-requires-clause-old : goal.add_changes-requires-clause-old
add_changes-requires-clause-old c =
    let before : c.as_slice-before.result.now ≡ c.index-old-i.result.quads.items = c.as_slice-before.ensures.value ∙ ap (λ (p : RenderPass). p.quads.items) (sym c.index-old-i.is) in
    rw (before, c.as_slice-seen.ensures.value)
    (pass_fits c.args.old.now c.loop-i.i (length c.loop-i.reaches.items) c.index-old-i.result c.requires.old c.loop-i-test.true c.index-old-i.is
    (so_many c.args.old.now c.loop-i.i (length c.loop-i.reaches.items) c.loop-i-test.true c.loop-i.invariant.count))

pub add_changes-requires-clause-new : goal.add_changes-requires-clause-new
add_changes-requires-clause-new c =
    let after : c.as_slice-after.result.now ≡ c.index-new-i.result.quads.items = c.as_slice-after.ensures.value ∙ ap (λ (p : RenderPass). p.quads.items) (sym c.index-new-i.is) in
    let less : c.loop-i.i < length c.args.new.now = omega arith in
    rw (after, c.as_slice-seen.ensures.value)
    (pass_fits c.args.new.now c.loop-i.i (length c.loop-i.reaches.items) c.index-new-i.result c.requires.new less c.index-new-i.is
    (so_many c.args.old.now c.loop-i.i (length c.loop-i.reaches.items) c.loop-i-test.true c.loop-i.invariant.count))

pub loop-i-preserved : goal.loop-i-preserved
loop-i-preserved c =
    let before : c.as_slice-before.result.now ≡ c.index-old-i.result.quads.items = c.as_slice-before.ensures.value ∙ ap (λ (p : RenderPass). p.quads.items) (sym c.index-old-i.is) in
    let after : c.as_slice-after.result.now ≡ c.index-new-i.result.quads.items = c.as_slice-after.ensures.value ∙ ap (λ (p : RenderPass). p.quads.items) (sym c.index-new-i.is) in
    let less : c.loop-i.i < length c.args.new.now = omega arith in
    let differ = rw (before, after, c.as_slice-seen.ensures.value) at c.in_ok-add_changes.ensures.changes in
    let within = rw (before, c.as_slice-seen.ensures.value) at c.reach_of-reach.ensures.within in
    subst (λ (rs : List Rect). AreCompared (take (c.loop-i.i + 1) (passes_view c.args.old.now)) (take (c.loop-i.i + 1) (passes_view c.args.new.now)) rs c.add_changes.new.damage.items) (sym c.in_ok-push.ensures.items)
    (compared_more c.args.old.now c.args.new.now c.loop-i.i c.index-old-i.result c.index-new-i.result c.loop-i.reaches.items c.loop-i.damage.items
    c.add_changes.new.damage.items c.reach_of-reach.result c.loop-i-test.true less c.index-old-i.is c.index-new-i.is c.loop-i.invariant
    c.in_ok-add_changes.ensures.held c.add_changes.ensures.damage c.reach_of-reach.ensures.inside differ within)

pub returns-clause-alike : goal.returns-clause-alike
returns-clause-alike c =
    (compared_all c.args.old.now c.args.new.now c.loop-i.i c.loop-i.reaches.items c.loop-i.damage.items c.loop-i-test.false (omega arith) c.loop-i.invariant).alike
