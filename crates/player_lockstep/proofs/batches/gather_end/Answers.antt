-- What comes after all inputs was gathered.
use Rattle.std.proofs.Common.{sym, ◌∙◌, ap}
use Rattle.std.proofs.lemmas.List.{reverse-reverse}
use Rattle.model_history.specs.declared.history.Entry.{Entry}
use Rattle.std.specs.Prelude.{List}
use Rattle.script_json.specs.Recordings.{recording}
use Rattle.recording_writer.specs.Batches.{held_of}
use Rattle.player_lockstep.specs.inner.Batches.{run_text}
use Rattle.player_lockstep.proofs.BatchedRuns.{completes, waited}
use Rattle.player_lockstep.proofs.batches.gather_end.Goals as goal

pub play_end-requires-clause-has : goal.play_end-requires-clause-has
play_end-requires-clause-has g c κs within =
    let run = c.args.single.now.run in
    (waited run (held_of c.args.gathering.now.batch), λ lead is. is ∙ ap (λ (es : List Entry). recording run.script es) (sym (reverse-reverse run.entries)))

pub returns-clause-bytes : goal.returns-clause-bytes
returns-clause-bytes g c =
    let run = c.args.single.now.run in
    let held = held_of c.args.gathering.now.batch in
    completes c.play_end.result run.script (run_text run) c.play_end.new.core held (held_of c.play_end.new.receiver.batch)
    (c.play_end.ensures.has (waited run held) (λ lead is. is ∙ ap (λ (es : List Entry). recording run.script es) (sym (reverse-reverse run.entries))))
