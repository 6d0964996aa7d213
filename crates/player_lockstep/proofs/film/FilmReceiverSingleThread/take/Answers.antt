-- What was entered since all was taken was put, or a prefix of it.
use Rattle.player_lockstep.proofs.Received.{film_has, film_stopped}
use Rattle.player_lockstep.proofs.film.FilmReceiverSingleThread.take.Goals as goal

pub returns-clause-has : goal.returns-clause-has
returns-clause-has g c = λ start old since has.
    film_has start old c.args.single.now (g.K.Sink.held c.args.out.now) (g.K.Sink.held c.put_news.new.out) (g.K.Sink.faults c.args.out.now) (g.K.Sink.faults c.put_news.new.out) since has c.put_news.ensures.grows c.put_news.result c.put_news.ensures.bytes

pub returns-clause-stopped : goal.returns-clause-stopped
returns-clause-stopped g c = λ start old since has.
    film_stopped start old c.args.single.now (g.K.Sink.held c.args.out.now) (g.K.Sink.held c.put_news.new.out) (g.K.Sink.faults c.args.out.now) (g.K.Sink.faults c.put_news.new.out) since has c.put_news.ensures.grows c.put_news.result c.put_news.ensures.bytes
    c.put_news.ensures.cause
