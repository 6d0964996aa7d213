-- The canvas shows the scene outside of what is left, whether its rows were moved or not.
use Rattle.std.proofs.Common.{ℕ, subst, sym, ◌∙◌}
use Rattle.std.specs.Prelude.{IfSome}
use Rattle.viz_damage.specs.Moved.{IsShift}
use Rattle.viz_painter.proofs.Redrawn.{shown_outside, moved_outside, had_outside}
use Rattle.viz_painter.proofs.redrawing.left_of_change.Goals as goal

pub move_rows-requires : goal.move_rows-requires
move_rows-requires g c =
    subst (λ (h : ℕ). IfSome c.in_ok-left.left.moved (λ rows. IsShift h rows.shift))
    (sym (c.requires.shown.size.tall ∙ c.requires.tall)) c.in_ok-left.ensures.shift

pub returns-clause-rest : goal.returns-clause-rest
returns-clause-rest g c =
    moved_outside g.F.PixelFormat.DEPTH g.F.PixelFormat.bytes_of c.args.old.now c.args.scene.now c.in_ok-left.left.damage c.in_ok-left.left.moved
    c.args.canvas.now c.move_rows.new.canvas c.requires.wide c.requires.tall c.requires.shown c.in_ok-left.ensures
    c.move_rows.ensures.size c.move_rows.ensures.pixels

pub returns-clause-damage : goal.returns-clause-damage
returns-clause-damage g c =
    had_outside g.F.PixelFormat.DEPTH g.F.PixelFormat.bytes_of c.args.scene.now c.in_ok-left.left.damage c.args.canvas.now
    (shown_outside g.F.PixelFormat.DEPTH g.F.PixelFormat.bytes_of c.args.old.now c.args.scene.now c.in_ok-left.left.damage c.args.canvas.now
    c.requires.wide c.requires.tall c.requires.shown c.in_ok-left.ensures.damaged)
