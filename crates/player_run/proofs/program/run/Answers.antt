-- The words are `play N`, and nothing was done before.
use Rattle.player_run.proofs.program.run.Goals as goal

pub returns-in-None : goal.returns-in-None
returns-in-None g c = rw c.in-None.ensures.idle at c.run_played.ensures
