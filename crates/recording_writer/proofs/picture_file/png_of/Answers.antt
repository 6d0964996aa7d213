-- The canvas shows the scene, so its file is of the scene's image.
use Rattle.std.proofs.Common.{ℕ, List, [], ◌∷◌, subst, sym}
use Rattle.std.specs.Prelude.{IfOk}
use Rattle.viz_canvas.specs.Canvases.{CanvasView}
use Rattle.viz_painter.specs.Painters.{ShowsWhole}
use Rattle.recording_writer.specs.Files.{IsFileOf}
use Rattle.recording_writer.proofs.ShownImages.{shown_image}
use Rattle.recording_writer.proofs.picture_file.png_of.Goals as goal

pub returns : goal.returns
returns g c =
    let shows : ShowsWhole 3 (λ p. p.r ∷ p.g ∷ p.b ∷ []) c.args.scene c.canvas.result.now = subst (λ (v : CanvasView). ShowsWhole 3 (λ p. p.r ∷ p.g ∷ p.b ∷ []) c.args.scene v) (sym c.canvas.ensures) c.in_ok-paint_in_parts.ensures.shown in
    subst (λ (image : List ℕ). IfOk c.file_of_canvas.result (λ file. IsFileOf image file.items)) (shown_image c.args.scene c.canvas.result.now shows) c.file_of_canvas.ensures
