-- The picture of the scene is that of the draw.
use Rattle.std.proofs.Common.{◌≡◌, ◌∙◌}
use Rattle.viz_canvas.specs.Canvases.{CanvasView}
use Rattle.recording_writer.specs.Images.{image_of}
use Rattle.thread_pieces.specs.Scenes.{scene_image}
use Rattle.recording_writer.proofs.KeptPictures.{kept_here}
use Rattle.recording_writer.proofs.ShownImages.{shown_image}
use Rattle.recording_writer.proofs.last_draw.LastDraw.show.Goals as goal

pub returns : goal.returns
returns g c = λ s h keeps behind.
    let canvas : CanvasView = c.paint_in_parts.new.self.canvas in
    let shown : image_of canvas ≡ scene_image c.args.scene = shown_image c.args.scene canvas c.in_ok-paint_in_parts.ensures.shown in
    record {
      image = shown ∙ behind;
      keeps = kept_here s h c.args.history.now.entries canvas c.args.at c.args.entry.now c.requires (shown ∙ behind);
    }
