-- The scene that was painted is the last one.
use Rattle.std.proofs.Common.{subst}
use Rattle.std.specs.Prelude.{Option}
use Rattle.viz_scene.specs.Views.{SceneView}
use Rattle.player_lockstep.specs.Films.{IsLastImage}
use Rattle.player_lockstep.specs.inner.Shooting.{shown}
use Rattle.player_lockstep.proofs.ShotRuns.{shot_some}
use Rattle.player_lockstep.proofs.shot.shot_of.Goals as goal

pub returns-in_ok-png_of-in-Some : goal.returns-in_ok-png_of-in-Some
returns-in_ok-png_of-in-Some g c =
    shot_some c.args.script.now c.in-Some.scene c.in_ok-png_of-in-Some.field-0.items
    (subst (λ (z : Option SceneView). IsLastImage c.args.script.now (shown z)) c.in-Some.is c.in_ok-scene.ensures) c.in_ok-png_of-in-Some.ensures
