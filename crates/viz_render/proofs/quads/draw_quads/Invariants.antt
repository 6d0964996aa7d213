-- The quads so far are drawn where they are seen.
use Rattle.std.specs.Prelude.{ℕ, ◌+◌, ◌*◌, ◌<◌, ◌≤◌, ◌≡◌, pos, ◌+ℤ◌, take, fold}
use Rattle.pixel.specs.Rows.{pixel, ArePremultiplied}
use Rattle.page_display_list.specs.Bitmaps.{near}
use Rattle.viz_scene.specs.Views.{quad_view}
use Rattle.viz_scene.specs.Pixels.{quad_over}
use Rattle.viz_scene.specs.declared.Quad.{Quad}
use Rattle.viz_render.specs.inner.Drawing.{colours}
use Rattle.viz_render.specs.inner.Masks.{top}
use Rattle.viz_render.proofs.quads.draw_quads.Given as given

abbrev pub invariant-loop-k : given.invariant-loop-k
invariant-loop-k l = record {
  pixels : (x y : ℕ) → x < near l.area.w → y < near l.area.h → top l.mask.tops x y ≤ l.k
      → pixel l.surface (y * near l.area.w + x)
      ≡ fold (λ c (q : Quad). quad_over (colours l.passes (l.area.x +ℤ pos x) (l.area.y +ℤ pos y)) (l.area.x +ℤ pos x) (l.area.y +ℤ pos y) c (quad_view q)) l.fn.below (take l.k l.quads);
  premultiplied : ArePremultiplied l.initial.surface → ArePremultiplied l.surface;
}
