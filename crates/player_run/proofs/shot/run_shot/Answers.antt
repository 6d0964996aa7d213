-- What was written is what the script of the source asked for.
use Rattle.std.proofs.Common.{refl}
use Rattle.player_uses.specs.declared.words.Use.TheVariants.{Shot}
use Rattle.player_run.proofs.ScriptsPlayed.{shot_plays, did_play, did_stop}
use Rattle.player_run.proofs.shot.run_shot.Goals as goal

pub returns-in-Ok : goal.returns-in-Ok
returns-in-Ok g c =
    did_play g.S.Source g.K.Sink (Shot c.args.workers) c.args.source.now c.read_shot_from.new.source c.args.out.now c.shoot_script.new.out c.in-Ok.script.value c.shoot_script.result
    tt (record { said = c.in-Ok.ensures.script.said; text = c.in-Ok.ensures.script.text; accepted = c.in-Ok.ensures.script.accepted; asked = c.in-Ok.ensures.script.asked; whole = c.in-Ok.ensures.script.whole }) c.read_shot_from.ensures.reads c.in-Ok.ensures.stops
    (shot_plays c.args.workers c.in-Ok.script.value (g.K.Sink.held c.args.out.now) (g.K.Sink.held c.shoot_script.new.out) c.shoot_script.result c.shoot_script.ensures.shoots) c.shoot_script.ensures.cause

pub returns-in-Err : goal.returns-in-Err
returns-in-Err g c =
    did_stop g.S.Source g.K.Sink (Shot c.args.workers) c.args.source.now c.read_shot_from.new.source c.args.out.now c.in-Err.outcome
    tt c.in-Err.ensures.script c.read_shot_from.ensures.reads c.in-Err.ensures.cause c.in-Err.ensures.answers c.in-Err.ensures.stops
