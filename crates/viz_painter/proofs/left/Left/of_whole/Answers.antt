-- The whole screen is left.
use Rattle.viz_painter.proofs.left.Left.of_whole.Goals as goal

pub returns-clause-rest : goal.returns-clause-rest
returns-clause-rest c = record { points = c.in_ok-screen.ensures }

pub returns-clause-damage : goal.returns-clause-damage
returns-clause-damage c = record { points = c.in_ok-screen.ensures }
