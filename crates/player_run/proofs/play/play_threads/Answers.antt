-- What the actors wrote is the recording of the script, or a prefix of one.
use Rattle.std.proofs.Common.{◌≡◌, ◌∙◌, ap, subst, rules}
use Rattle.thread_pieces.specs.Ring.{whole}
use Rattle.model_history.specs.Accepted.{IsAccepted}
use Rattle.model_history.specs.Recordings.{header}
use Rattle.model_history.specs.Scripts.{ScriptModel}
use Rattle.script_json.specs.Recordings.{script_text}
use Rattle.player_run.proofs.PlayedRuns.{threads_play}
use Rattle.player_run.proofs.play.play_threads.Goals as goal

pub returns-clause-plays : goal.returns-clause-plays
returns-clause-plays g c =
    let same : c.deref.result.now ≡ c.args.script.now.value = search rules in
    let lines : whole c.in-Ok.ends.0 ≡ header (script_text c.args.script.now.value) = c.in-Ok.ensures.lines ∙ ap (λ (s : ScriptModel). header (script_text s)) same in
    let accepted : IsAccepted c.args.script.now.value = subst IsAccepted c.deref-2.ensures c.is_accepted.ensures.accepted in
    threads_play (c.run_crew.new.out ≡ c.args.out.now) c.args.script.now.value c.args.workers accepted (whole c.in-Ok.ends.0) c.in_ok-crew.crew.pass.stem (g.K.Sink.held c.args.out.now) (g.K.Sink.held c.run_crew.new.out) c.run_crew.result lines c.in_ok-crew.ensures.stem c.run_crew.ensures.ends
