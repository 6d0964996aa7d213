-- The frame shows the scene that was painted, which is that of the active page.
use Rattle.std.proofs.Common.{Option, List, sym, subst}
use Rattle.geom.specs.declared.rect.Rect.{Rect}
use Rattle.cc.specs.inner.Flags.{TellsShown}
use Rattle.page_layers.specs.Effects.{main_point}
use Rattle.cc.proofs.Pages.{shown_now}
use Rattle.cc.proofs.Pictures.{shown_page, outside_scene}
use Rattle.cc.proofs.compositor.Compositor.draw_once.Goals as goal

pub paint-requires-clause-outside : goal.paint-requires-clause-outside
paint-requires-clause-outside g c =
    let s = c.self.inside in
    outside_scene g.F.PixelFormat.DEPTH g.F.PixelFormat.bytes_of c.take-unshown.result s.active s.background c.in_ok-scene.scene s.painter.canvas c.in_ok-scene.ensures.scene
    (subst (λ (o : Option (List Rect)). TellsShown g.F.PixelFormat.DEPTH g.F.PixelFormat.bytes_of o s.active s.background s.painter.canvas) (sym c.take-unshown.ensures.value) c.self.invariant.4)

pub returns-clause-shown : goal.returns-clause-shown
returns-clause-shown g c =
    let s = c.self.inside in
    shown_page g.F.PixelFormat.DEPTH g.F.PixelFormat.bytes_of s.active (main_point s.active) s.background c.in_ok-scene.scene c.paint.new.painter.canvas c.in_ok-scene.ensures.scene c.in_ok-paint.ensures.shown

pub invariant_of-self-2 : goal.invariant_of-self-2
invariant_of-self-2 g c =
    let s = c.self.inside in (
      c.scene_of.ensures.kept,
      c.scene_of.ensures.current,
      c.self.invariant.2,
      c.self.invariant.3,
      shown_now g.F.PixelFormat.DEPTH g.F.PixelFormat.bytes_of c.new.result s.active s.background c.paint.new.painter.canvas (returns-clause-shown g c),
    )
