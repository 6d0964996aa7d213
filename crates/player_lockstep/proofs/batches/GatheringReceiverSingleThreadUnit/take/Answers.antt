-- What was entered since all was taken was added.
use Rattle.model_lockstep.proofs.Following.{then_on_ok}
use Rattle.recording_writer.specs.Batches.{held_of}
use Rattle.player_lockstep.proofs.Received.{gathered_has}
use Rattle.player_lockstep.proofs.PassedMilestones.{kept_since}
use Rattle.player_lockstep.proofs.batches.GatheringReceiverSingleThreadUnit.take.Goals as goal

pub gather_news-requires : goal.gather_news-requires
gather_news-requires g c = let was = c.requires.since in kept_since was.1 c.args.single.now was.2

pub returns-clause-has : goal.returns-clause-has
returns-clause-has g c = λ start old since has.
    then_on_ok c.gather_news.result _ _ c.gather_news.ensures.bytes
    (λ adds. gathered_has start old c.args.single.now (held_of c.args.self.now.batch) (held_of c.gather_news.new.batch) since adds has)
