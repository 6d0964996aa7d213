-- The newest of the scenes shows the last image.
use Rattle.std.proofs.Common.{ℕ, List, subst, ap, ◌∙◌}
use Rattle.std.specs.Prelude.{Option}
use Rattle.viz_scene.specs.Views.{SceneView}
use Rattle.model_history.specs.Legal.{Legal}
use Rattle.impl_log.specs.Runs.{Run, past}
use Rattle.player_lockstep.specs.inner.Shooting.{newest_image, shown}
use Rattle.player_lockstep.proofs.ShotRuns.{news_watched}
use Rattle.player_lockstep.proofs.shot.keep_newest.Goals as goal

pub returns-clause-image : goal.returns-clause-image
returns-clause-image c = λ newer h is count before.
    let run : Run = c.args.single.now.run in
    let scenes : List SceneView = c.take_scenes-scenes.result.items in
    let legal : Legal run.script run.workers (past run) = subst (λ (r : Run). Legal r.script r.workers (past r)) c.core.ensures c.is_legal.ensures.legal in
    c.newest_of.ensures
    ∙ ap (λ (o : Option (List ℕ)). newest_image scenes o) (ap shown c.take-before.ensures.value ∙ before)
    ∙ news_watched run c.args.single.now.written newer h scenes legal c.take_scenes-scenes.ensures.scenes is count
