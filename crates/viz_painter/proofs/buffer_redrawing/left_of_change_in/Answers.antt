-- The buffer shows the scene outside of what is left, whether its rows were moved or not.
use Rattle.viz_painter.proofs.RedrawnIn.{unchanged_in, moved_in}
use Rattle.viz_painter.proofs.buffer_redrawing.left_of_change_in.Goals as goal

pub returns-clause-rest : goal.returns-clause-rest
returns-clause-rest g c =
    moved_in g.F.PixelFormat.DEPTH g.F.PixelFormat.bytes_of c.args.across c.args.old.now c.args.scene.now c.in_ok-left.left.damage c.in_ok-left.left.moved
    c.args.bytes.now c.move_rows_in.new.bytes c.requires.wide c.requires.tall c.requires.shown c.in_ok-left.ensures c.move_rows_in.ensures.pixels

pub returns-clause-damage : goal.returns-clause-damage
returns-clause-damage g c =
    unchanged_in g.F.PixelFormat.DEPTH g.F.PixelFormat.bytes_of c.args.across c.args.old.now c.args.scene.now c.in_ok-left.left.damage c.args.bytes.now
    c.requires.wide c.requires.tall c.requires.shown c.in_ok-left.ensures.damaged
