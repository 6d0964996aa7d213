-- The picture has the image of the draw.
use Rattle.std.proofs.Common.{◌≡◌, ℕ, List, ◌++◌, ap, ◌∙◌}
use Rattle.std.proofs.lemmas.Result.{on_ok_weaker}
use Rattle.viz_canvas.specs.Canvases.{CanvasView}
use Rattle.model_history.specs.Recordings.{image_head, image_behind}
use Rattle.recording_writer.proofs.KeptPictures.{drawn_text}
use Rattle.recording_writer.proofs.recorder.Recorder.draw.Goals as goal

pub returns : goal.returns
returns g c =
    let lines : List ℕ = c.args.self.now.lines.items in
    let text : List ℕ = c.push_image_head.new.text.items in
    on_ok_weaker {P = text ≡ lines ++ image_head c.w-w.result c.h-h.result} c.push_image_head.result
    (λ made s h keeps behind.
    let shows = c.in_ok-show.ensures s h keeps behind in
    record {
      text =
          drawn_text c.show.new.self.painter.canvas lines text (image_behind s h c.args.entry.now.event) c.w-w.result c.h-h.result
          (c.w-w.ensures.value ∙ ap (λ (v : CanvasView). v.w) c.canvas-canvas.ensures) (c.h-h.ensures.value ∙ ap (λ (v : CanvasView). v.h) c.canvas-canvas.ensures) made shows.image;
      keeps = shows.keeps;
    })
    c.push_image_head.ensures.text
