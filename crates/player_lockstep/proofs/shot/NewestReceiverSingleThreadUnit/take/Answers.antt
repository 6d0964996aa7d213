-- The newest scene is kept.
use Rattle.player_lockstep.proofs.Received.{newest_has}
use Rattle.player_lockstep.proofs.shot.NewestReceiverSingleThreadUnit.take.Goals as goal

pub returns-clause-has : goal.returns-clause-has
returns-clause-has g c = λ start old since has. newest_has old c.args.single.now c.args.self.now.scene c.keep_newest.new.last since c.keep_newest.ensures.image has
