-- The scenes show what was entered since the last time.
use Rattle.std.proofs.Common.{ℕ, List, subst}
use Rattle.model_history.specs.Legal.{Legal}
use Rattle.impl_log.specs.Runs.{Run, past}
use Rattle.byte_io.specs.Pieces.{PutsAll}
use Rattle.player_lockstep.proofs.FilmedRuns.{news_shown}
use Rattle.player_lockstep.proofs.film.put_news.Goals as goal

pub returns-clause-bytes : goal.returns-clause-bytes
returns-clause-bytes g c = λ newer h is count.
    let run : Run = c.args.single.now.run in
    let legal : Legal run.script run.workers (past run) = subst (λ (r : Run). Legal r.script r.workers (past r)) c.core.ensures c.is_legal.ensures.legal in
    subst (λ (w : List ℕ). PutsAll (g.K.Sink.held c.args.out.now) (g.K.Sink.held c.put_scenes.new.out) w c.put_scenes.result)
    (news_shown run c.args.single.now.written newer h c.take_scenes-scenes.result.items legal c.take_scenes-scenes.ensures.scenes is count)
    c.put_scenes.ensures.bytes
