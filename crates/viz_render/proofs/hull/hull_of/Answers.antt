-- A point outside of the hull lies outside of what each quad draws.
use Rattle.std.proofs.Common.{◌≡◌, ℤ, pos, ◌+ℤ◌, ◌-ℤ◌, false, length, ap, sym, ◌∙◌}
use Rattle.geom.specs.Covers.{covers}
use Rattle.geom.proofs.Spans.{both}
use Rattle.pixel.specs.Colours.{Parts, clear}
use Rattle.page_display_list.specs.Bitmaps.{near}
use Rattle.viz_scene.specs.Views.{quad_view, quads_view}
use Rattle.viz_scene.specs.Pixels.{quad_over, quads_over}
use Rattle.viz_render.specs.inner.Drawing.{colours}
use Rattle.viz_render.proofs.Hulls.{place_in}
use Rattle.viz_render.proofs.QuadSteps.{drawn_more, drawn_all, drawable}
use Rattle.viz_render.proofs.hull.hull_of.Goals as goal

pub with_quad-hull-requires-clause-quad : goal.with_quad-hull-requires-clause-quad
with_quad-hull-requires-clause-quad c =
    drawable (length c.args.passes.now) c.args.quads.now c.loop-quad.quad-index c.quad-item.result c.requires.quads c.loop-quad-test.true c.quad-item.is

pub loop-quad-preserved : goal.loop-quad-preserved
loop-quad-preserved c = record {
  inside = c.with_quad-hull.ensures.inside;
  outside = λ x y xw yh off.
      let px = c.args.area.x +ℤ pos x in
      let py = c.args.area.y +ℤ pos y in
      sym (drawn_more (colours c.args.passes.now px py) px py clear c.args.quads.now c.loop-quad.quad-index c.quad-item.result c.loop-quad-test.true c.quad-item.is)
      ∙ ap (λ (below : Parts). quad_over (colours c.args.passes.now px py) px py below (quad_view c.quad-item.result))
      (c.loop-quad.invariant.outside x y xw yh (c.with_quad-hull.ensures.before x y off))
      ∙ c.with_quad-hull.ensures.outside x y xw yh off;
}

pub returns-clause-outside : goal.returns-clause-outside
returns-clause-outside c = λ x y on off.
    let area = c.args.area in
    let cs = c.args.passes.now in
    let qs = quads_view c.args.quads.now in
    let k = both _ _ on in
    let across = place_in area.x area.w x k.0 in
    let down = place_in area.y area.h y k.1 in
    let column = near (x -ℤ area.x) in
    let row = near (y -ℤ area.y) in
    let here : covers c.rect_in.result (area.x +ℤ pos column) (area.y +ℤ pos row) ≡ false =
    ap (λ (z : ℤ). covers c.rect_in.result z (area.y +ℤ pos row)) across.1 ∙ ap (λ (z : ℤ). covers c.rect_in.result x z) down.1 ∙ off in
    sym (ap (λ (z : ℤ). quads_over (colours cs z (area.y +ℤ pos row)) z (area.y +ℤ pos row) clear qs) across.1
    ∙ ap (λ (z : ℤ). quads_over (colours cs x z) x z clear qs) down.1)
    ∙ sym (drawn_all (colours cs (area.x +ℤ pos column) (area.y +ℤ pos row)) (area.x +ℤ pos column) (area.y +ℤ pos row) clear c.args.quads.now
    c.loop-quad.quad-index c.loop-quad-test.false)
    ∙ c.loop-quad.invariant.outside column row across.0 down.0 (sym (c.rect_in.ensures.points column row) ∙ here)
