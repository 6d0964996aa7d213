-- The lines, the head of the image and its pixels.
use Rattle.std.proofs.Common.{ℕ, List, ◌++◌, ap, ◌∙◌, subst}
use Rattle.viz_canvas.specs.Canvases.{CanvasView}
use Rattle.recording_writer.specs.Parts.{WritesPart}
use Rattle.recording_writer.proofs.KeptPictures.{kept_on}
use Rattle.recording_writer.proofs.recorder.Recorder.write_image.Goals as goal

pub returns-in-Ok-clause-written : goal.returns-in-Ok-clause-written
returns-in-Ok-clause-written g c = λ s h keeps behind.
    let draws = c.in-Ok.ensures s h keeps behind in
    record {
      bytes =
          subst (λ (w : List ℕ). WritesPart (g.K.Sink.held c.args.out.now) (g.K.Sink.held c.put_behind.new.out) w c.put_behind.new.lines.items c.put_behind.result)
          (ap (λ (xs : List ℕ). c.draw.new.self.lines.items ++ xs) (c.bytes.ensures.value ∙ ap (λ (v : CanvasView). v.bytes) c.canvas.ensures) ∙ draws.text)
          c.put_behind.ensures.bytes;
      keeps = kept_on c.put_behind.result _ draws.keeps;
    }
