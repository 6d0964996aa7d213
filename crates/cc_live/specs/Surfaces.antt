-- Surfaces: pictures of a live compositor's page in the buffers of its host.
use Rattle.std.specs.Prelude.{ℕ, pos, List}
use Rattle.pixel.specs.Colours.{Parts}
use Rattle.page_layers.specs.TreePainting.{paint}
use Rattle.viz_canvas.specs.Buffers.{EachPixelIs}
use Rattle.model_history.specs.declared.history.Entry.{Entry}
use Rattle.model_history.specs.Scripts.{ScriptModel}
use Rattle.model_history.specs.Frames.{active_page}
use Rattle.model_history.specs.Scrolls.{active_offsets}
use Rattle.model_history.specs.Tiles.{missing_visible}

-- the bytes of each pixel of a picture in a buffer are those of the direct painting of the page that is active after this past, where its scrollers stand, with the tiles missing that are not ready
pub record ShowsActivePage (depth : ℕ) (bytes_of : Parts → List ℕ) (across : ℕ) (s : ScriptModel) (h : List Entry) (bytes : List ℕ) : Type 0 where
  pub pixels : EachPixelIs depth across (active_page s h).view.w (active_page s h).view.h (λ x y. bytes_of (paint (active_page s h) (active_offsets s h) (missing_visible s h) s.background (pos x) (pos y))) bytes
