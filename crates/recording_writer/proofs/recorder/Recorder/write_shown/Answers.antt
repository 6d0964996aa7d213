-- Nothing stands after the line of an entry that has no scene.
use Rattle.std.proofs.Common.{ℕ, List, ◌++◌, ap, sym, ◌∙◌, append-nil, subst}
use Rattle.recording_writer.specs.Parts.{WritesPart}
use Rattle.thread_pieces.specs.Scenes.{image_if}
use Rattle.recording_writer.proofs.KeptPictures.{kept_on}
use Rattle.recording_writer.proofs.recorder.Recorder.write_shown.Goals as goal

pub returns-in-None-clause-written : goal.returns-in-None-clause-written
returns-in-None-clause-written g c = λ s h keeps behind. record {
  bytes =
      subst (λ (w : List ℕ). WritesPart (g.K.Sink.held c.args.out.now) (g.K.Sink.held c.flush_many.new.out) w c.flush_many.new.lines.items c.flush_many.result)
      (sym (append-nil c.args.self.now.lines.items) ∙ ap (λ (xs : List ℕ). c.args.self.now.lines.items ++ xs) (sym (ap image_if c.in-None.is) ∙ behind))
      c.flush_many.ensures.bytes;
  keeps = kept_on c.flush_many.result _ keeps;
}
