-- The line, and then what stands after it.
use Rattle.std.proofs.Common.{ℕ, List, ap, ◌∙◌, subst}
use Rattle.thread_pieces.specs.Scenes.{image_if}
use Rattle.recording_writer.specs.Steps.{WritesOn}
use Rattle.recording_writer.proofs.NextEntries.{piece_parts}
use Rattle.recording_writer.proofs.recorder.Recorder.write_entry.Goals as goal

pub returns-in-Ok-clause-written : goal.returns-in-Ok-clause-written
returns-in-Ok-clause-written g c = λ s h keeps comes.
    subst (λ (w : List ℕ). WritesOn s h c.args.history.now.entries (g.K.Sink.held c.args.out.now) (g.K.Sink.held c.write_shown.new.out) w c.write_shown.new.self c.write_shown.result)
    (piece_parts s h c.args.self.now.lines.items c.push_event.new.text.items c.args.entry.now.event c.in-Ok.ensures.text)
    (c.write_shown.ensures.written s h keeps (ap image_if c.next_scene-scene.ensures.scene ∙ comes.image))
