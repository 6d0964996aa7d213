-- What was written is what the script of the source asked for.
use Rattle.std.proofs.Common.{refl}
use Rattle.player_uses.specs.declared.words.Use.TheVariants.{Play}
use Rattle.player_run.proofs.ScriptsPlayed.{begun_plays, did_play, did_stop}
use Rattle.player_run.proofs.play.run_play.Goals as goal

pub returns-in-Ok : goal.returns-in-Ok
returns-in-Ok g c =
    did_play g.S.Source g.K.Sink (Play c.args.workers) c.args.source.now c.read_script_from.new.source c.args.out.now c.play.new.out c.in-Ok.script.value c.play.result
    tt (record { said = c.in-Ok.script.value; text = c.in-Ok.ensures.script.0; accepted = c.in-Ok.ensures.script.2; asked = refl; whole = c.in-Ok.ensures.script.1 }) c.read_script_from.ensures.reads c.in-Ok.ensures.stops
    (begun_plays (Play c.args.workers) c.in-Ok.script.value (g.K.Sink.held c.args.out.now) (g.K.Sink.held c.play.new.out) c.play.result c.play.ensures.plays) c.play.ensures.cause

pub returns-in-Err : goal.returns-in-Err
returns-in-Err g c =
    did_stop g.S.Source g.K.Sink (Play c.args.workers) c.args.source.now c.read_script_from.new.source c.args.out.now c.in-Err.outcome
    tt c.in-Err.ensures.script c.read_script_from.ensures.reads c.in-Err.ensures.cause c.in-Err.ensures.answers c.in-Err.ensures.stops
