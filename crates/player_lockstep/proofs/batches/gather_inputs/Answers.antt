-- What was gathered keeps up with the run.
use Rattle.std.proofs.Common.{sym, ◌∙◌, ap}
use Rattle.std.proofs.lemmas.List.{reverse-reverse}
use Rattle.model_history.specs.declared.history.Entry.{Entry}
use Rattle.std.specs.Prelude.{List}
use Rattle.script_json.specs.Recordings.{recording}
use Rattle.recording_writer.specs.Batches.{held_of}
use Rattle.player_lockstep.proofs.BatchedRuns.{keeps_up, waited}
use Rattle.player_lockstep.proofs.batches.gather_inputs.Goals as goal

pub play_some-requires-clause-has : goal.play_some-requires-clause-has
play_some-requires-clause-has g c κs within =
    let run = c.args.single.now.run in
    (waited run (held_of c.args.gathering.now.batch), λ lead is. is ∙ ap (λ (es : List Entry). recording run.script es) (sym (reverse-reverse run.entries)))

pub returns-clause-bytes : goal.returns-clause-bytes
returns-clause-bytes g c =
    let run = c.args.single.now.run in
    let held = held_of c.args.gathering.now.batch in
    keeps_up c.play_some.result c.args.single.now c.play_some.new.core held (held_of c.play_some.new.receiver.batch) (λ left. left.now)
    (c.play_some.ensures.has (waited run held) (λ lead is. is ∙ ap (λ (es : List Entry). recording run.script es) (sym (reverse-reverse run.entries)))) c.play_some.ensures.course
