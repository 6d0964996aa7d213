-- What was entered since all was taken was written, or a prefix of it.
use Rattle.player_lockstep.proofs.Received.{keeps_since, recorded_has, recorded_stopped}
use Rattle.player_lockstep.proofs.PassedMilestones.{kept_since}
use Rattle.player_lockstep.proofs.lockstep.RecordingReceiverSingleThread.take.Goals as goal

pub write_news-requires-clause-kept : goal.write_news-requires-clause-kept
write_news-requires-clause-kept g c κs within = let was = c.requires.since in kept_since was.1 c.args.single.now was.2

pub write_news-requires-clause-keeps : goal.write_news-requires-clause-keeps
write_news-requires-clause-keeps g c κs within =
    let was = c.requires.since in
    let had = was.3 in
    keeps_since was.1 c.args.single.now was.2 c.args.self.now.recorder had.keeps

pub returns-clause-has : goal.returns-clause-has
returns-clause-has g c = λ start old since has.
    recorded_has start old c.args.single.now (g.K.Sink.held c.args.out.now) (g.K.Sink.held c.write_news.new.out) (g.K.Sink.faults c.args.out.now) (g.K.Sink.faults c.write_news.new.out) c.args.self.now.recorder c.write_news.new.recorder since has
    c.write_news.ensures.grows c.write_news.new.single c.write_news.result c.write_news.ensures.run c.write_news.ensures.written c.write_news.ensures.bytes

pub returns-clause-stopped : goal.returns-clause-stopped
returns-clause-stopped g c = λ start old since has.
    recorded_stopped start old c.args.single.now (g.K.Sink.held c.args.out.now) (g.K.Sink.held c.write_news.new.out) (g.K.Sink.faults c.args.out.now) (g.K.Sink.faults c.write_news.new.out) c.args.self.now.recorder c.write_news.new.recorder since has
    c.write_news.ensures.grows c.write_news.result c.write_news.ensures.bytes c.write_news.ensures.cause
