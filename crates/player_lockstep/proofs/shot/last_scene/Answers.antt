-- The whole run, and its newest scene.
use Rattle.player_lockstep.proofs.Received.{fresh_course, newest_all}
use Rattle.player_lockstep.proofs.ShotRuns.{fresh_image}
use Rattle.player_lockstep.specs.inner.Shooting.{shown}
use Rattle.player_lockstep.proofs.shot.last_scene.Goals as goal

pub play_all-requires-clause-course : goal.play_all-requires-clause-course
play_all-requires-clause-course g c κs within = fresh_course c.args.script.now c.inputs.result.now c.args.single.now c.requires c.is_accepted.ensures.accepted c.inputs.ensures

pub play_all-requires-clause-has : goal.play_all-requires-clause-has
play_all-requires-clause-has g c κs within = (tt, fresh_image c.args.script.now c.args.single.now c.requires)

pub returns : goal.returns
returns g c =
    let played = c.in_ok-play_all.ensures in
    newest_all c.args.script.now c.args.single.now c.play_all.new.core (shown c.play_all.new.receiver.scene) c.requires played.lockstep (played.has tt (fresh_image c.args.script.now c.args.single.now c.requires))
