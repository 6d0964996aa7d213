-- What is known of the pages and the frame after a scroll.
use Rattle.std.proofs.Common.{◌≡◌, Option, List, [], ◌∷◌, sym, subst, rules}
use Rattle.geom.specs.declared.rect.Rect.{Rect}
use Rattle.cc.specs.inner.Flags.{TellsShown}
use Rattle.page_layers.specs.Effects.{scrolled_by, page_after_pulls}
use Rattle.cc.specs.Compositors.{amount_scrolled, move_by}
use Rattle.cc.proofs.Pages.{committed_scrolled, edited_committed, shown_scrolled}
use Rattle.cc.proofs.compositor.Compositor.scroll.Goals as goal

pub invariant_of-self : goal.invariant_of-self
invariant_of-self g c =
    let s = c.self.inside in
    let id = c.args.id in
    let p = c.scroll_active-by.new.active in
    let m = c.move_main.new.main in
    let by = c.scroll_active-by.result in
    let scrolled : p ≡ scrolled_by s.active id c.args.dx c.args.dy = search rules in
    let is : by ≡ amount_scrolled s.active id c.args.dx c.args.dy = search rules in
    let moved : m ≡ page_after_pulls (move_by id by ∷ []) s.main = search rules in
    let committed = committed_scrolled s.is_committed s.active s.main p m id c.args.dx c.args.dy by scrolled is moved c.self.invariant.2 in (
      c.scroll_active-by.ensures.kept,
      c.move_main.ensures.current,
      committed,
      edited_committed c.edited_after_moves.result s.is_committed p m c.edited_after_moves.ensures committed,
      shown_scrolled g.F.PixelFormat.DEPTH g.F.PixelFormat.bytes_of c.take.result c.unshown_after.result s.active p s.background s.painter.canvas id c.args.dx c.args.dy by scrolled is c.unshown_after.ensures
          (subst (λ (o : Option (List Rect)). TellsShown g.F.PixelFormat.DEPTH g.F.PixelFormat.bytes_of o s.active s.background s.painter.canvas) (sym c.take.ensures.value) c.self.invariant.4),
    )
