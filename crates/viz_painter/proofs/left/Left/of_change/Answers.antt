-- All of the damage is left.
use Rattle.viz_painter.proofs.RedrawnIn.{left_alike}
use Rattle.viz_painter.proofs.left.Left.of_change.Goals as goal

pub returns-in_default : goal.returns-in_default
returns-in_default c =
    left_alike c.args.old.now c.args.scene.now c.in_ok-damage.damage c.requires.wide c.requires.tall c.in_ok-damage.ensures
