-- The passes before the root are drawn where they are seen, and then the root over the background.
use Rattle.std.proofs.Common.{ℕ, ◌<◌, List, pos, ◌+ℤ◌, ap, length, refl, arith}
use Rattle.page_display_list.specs.Bitmaps.{near}
use Rattle.viz_scene.specs.declared.Quad.{Quad}
use Rattle.viz_scene.specs.Views.{quads_view}
use Rattle.viz_render.specs.inner.Drawing.{ShowsQuads}
use Rattle.viz_render.specs.inner.Masks.{top}
use Rattle.viz_render.specs.inner.Shown.{ShowsNoPass}
use Rattle.viz_render.proofs.PassSteps.{all_seen}
use Rattle.viz_render.proofs.SceneSteps.{inner_drawable, root_drawable, passes_count, scene_shown}
use Rattle.viz_render.proofs.ShownSteps.{group_hidden}
use Rattle.viz_render.proofs.Tiles.{narrow}
use Rattle.viz_render.proofs.pass_surfaces.draw_scene.Goals as goal

pub mark-requires-clause-quads : goal.mark-requires-clause-quads
mark-requires-clause-quads c =
    let count = passes_count c.args.scene.now c.passes.result.now c.in-Some.inner.now c.in-Some.root.now c.passes.ensures.value c.in-Some.ensures.cases.0 in
    let had = c.requires.room.count in
    let lent = ap length c.deref.ensures.value in
    rw (c.as_slice-quads.ensures.value)
    (root_drawable c.args.scene.now c.passes.result.now c.in-Some.inner.now c.in-Some.root.now (length c.deref.result.now)
    c.passes.ensures.sound c.passes.ensures.value c.in-Some.ensures.cases.0 (omega arith))

pub last_group-last-requires : goal.last_group-last-requires
last_group-last-requires c =
    rw (c.as_slice-quads.ensures.value)
    (root_drawable c.args.scene.now c.passes.result.now c.in-Some.inner.now c.in-Some.root.now (length c.in-Some.inner.now)
    c.passes.ensures.sound c.passes.ensures.value c.in-Some.ensures.cases.0 refl)

pub draw_inner-requires-clause-each : goal.draw_inner-requires-clause-each
draw_inner-requires-clause-each c =
    let count = passes_count c.args.scene.now c.passes.result.now c.in-Some.inner.now c.in-Some.root.now c.passes.ensures.value c.in-Some.ensures.cases.0 in
    let had = c.requires.room.count in
    omega arith

pub draw_inner-requires-clause-quads : goal.draw_inner-requires-clause-quads
draw_inner-requires-clause-quads c =
    inner_drawable c.args.scene.now c.passes.result.now c.in-Some.inner.now c.in-Some.root.now c.passes.ensures.sound c.passes.ensures.value c.in-Some.ensures.cases.0

pub draw_pass-requires-clause-quads : goal.draw_pass-requires-clause-quads
draw_pass-requires-clause-quads c =
    let count = passes_count c.args.scene.now c.passes.result.now c.in-Some.inner.now c.in-Some.root.now c.passes.ensures.value c.in-Some.ensures.cases.0 in
    let had = c.requires.room.count in
    let kept = c.draw_inner.ensures.count in
    let lent = ap length c.deref-2.ensures.value in
    rw (c.as_slice-quads.ensures.value)
    (root_drawable c.args.scene.now c.passes.result.now c.in-Some.inner.now c.in-Some.root.now (length c.deref-2.result.now)
    c.passes.ensures.sound c.passes.ensures.value c.in-Some.ensures.cases.0 (omega arith))

pub returns-clause-pixels : goal.returns-clause-pixels
returns-clause-pixels c =
    let quads : List Quad = c.as_slice-quads.result.now in
    let tops : List ℕ = c.mark.new.self.tops in
    let drawn = rw (c.deref-2.ensures.value, c.background.ensures) at c.draw_pass.ensures.pixels in
    let shown : ShowsQuads c.args.area c.draw_inner.new.surfaces.items c.args.scene.now.background (quads_view quads) c.draw_pass.new.surface.bytes =
    all_seen (length quads) c.args.area tops c.draw_inner.new.surfaces.items c.args.scene.now.background (quads_view quads) c.draw_pass.new.surface.bytes
    (narrow c.args.area c.requires.area) c.requires.low c.mark.ensures.numbers drawn in
    let apart : (x y : ℕ) → x < near c.args.area.w → y < near c.args.area.h → c.last_group-last.result < top tops x y
    → ShowsNoPass (quads_view quads) (c.args.area.x +ℤ pos x) (c.args.area.y +ℤ pos y) = λ x y xw yh hidden.
    group_hidden c.args.area quads tops c.last_group-last.result x y (narrow c.args.area c.requires.area) c.requires.low c.mark.ensures.marked c.mark.ensures.numbers
    c.last_group-last.ensures.after xw yh hidden in
    scene_shown c.args.scene.now c.args.area tops c.last_group-last.result c.passes.result.now c.in-Some.inner.now c.in-Some.root.now c.draw_inner.new.surfaces.items c.draw_pass.new.surface.bytes
    c.passes.ensures.value c.in-Some.ensures.cases.0 c.draw_inner.ensures.pixels
    (rw (c.as_slice-quads.ensures.value) at apart) (rw (c.as_slice-quads.ensures.value) at shown)
