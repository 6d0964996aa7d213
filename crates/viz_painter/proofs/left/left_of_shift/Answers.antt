-- All of the damage is left, or less once rows are moved.
use Rattle.viz_painter.proofs.RedrawnIn.{left_alike, left_moved}
use Rattle.viz_painter.proofs.left.left_of_shift.Goals as goal

pub returns-then-not-pays : goal.returns-then-not-pays
returns-then-not-pays c = left_alike c.args.old.now c.args.scene.now c.args.damage c.requires.wide c.requires.tall c.requires.damage

pub returns : goal.returns
returns c =
    left_moved c.args.old.now c.args.scene.now c.args.shift c.in_ok-rest.rest c.args.damage
    c.requires.wide c.requires.tall c.requires.shift c.requires.damage c.in_ok-rest.ensures
