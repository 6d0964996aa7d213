-- Outside of the hull the quads so far draw nothing.
use Rattle.std.specs.Prelude.{◌≡◌, ℕ, ◌<◌, pos, ◌+ℤ◌, false, take, fold}
use Rattle.pixel.specs.Colours.{clear}
use Rattle.page_display_list.specs.Bitmaps.{near}
use Rattle.viz_scene.specs.Views.{quad_view}
use Rattle.viz_scene.specs.Pixels.{quad_over}
use Rattle.viz_scene.specs.declared.Quad.{Quad}
use Rattle.viz_render.specs.inner.Drawing.{colours}
use Rattle.viz_render.specs.inner.Hulls.{in_hull, IsHullIn}
use Rattle.viz_render.proofs.hull.hull_of.Given as given

abbrev pub invariant-loop-quad : given.invariant-loop-quad
invariant-loop-quad l = record {
  inside : IsHullIn l.area l.hull;
  outside : (x y : ℕ) → x < near l.area.w → y < near l.area.h → in_hull l.hull x y ≡ false
      → fold (λ c (q : Quad). quad_over (colours l.passes (l.area.x +ℤ pos x) (l.area.y +ℤ pos y)) (l.area.x +ℤ pos x) (l.area.y +ℤ pos y) c (quad_view q)) clear (take l.quad-index l.quads) ≡ clear;
}
