-- Draws that show again what the last one showed.
use Rattle.std.specs.Prelude.{◌≡◌, ℕ, Bool, true, false, List, ◌∷◌, slice_get, ⊤, Option, Some, None}
use Rattle.geom.specs.declared.tile.TileKey.{TileKey}
use Rattle.model_history.specs.declared.event.Event.{Event}
use Rattle.model_history.specs.declared.event.Event.TheVariants as event
use Rattle.model_history.specs.declared.history.Entry.{Entry}
use Rattle.model_history.specs.Scripts.{ScriptModel}
use Rattle.model_history.specs.Recordings.{shown_image, image_behind}
use Rattle.recording_writer.specs.Images.{image_of}
use Rattle.recording_writer.specs.declared.last_draw.LastDraw.{LastDraw}
use Rattle.viz_canvas.specs.Canvases.{CanvasView}

-- what the screen shows stays the same: no commit is activated, and nothing is scrolled
abbrev pub is_quiet : Event → Bool
is_quiet (event.Activate k clamps) = false
is_quiet (event.Scroll i dx dy) = false
is_quiet (event.Wheel i target rest_x rest_y parts) = false
is_quiet _ = true

-- the missing tiles that a draw lists
abbrev pub missing_in : Event → Option (List TileKey)
missing_in (event.Draw i missing) = Some missing
missing_in _ = None

-- two draws that list the same missing tiles
pub record HaveSameMissing (drawn again : Event) : Type 0 where
  pub missing : List TileKey
  pub first : missing_in drawn ≡ Some missing
  pub second : missing_in again ≡ Some missing

-- if the entry after a past is quiet, the screen shows the same after it, whichever tiles are missing
abbrev pub StaysShown : ScriptModel → List Entry → Entry → Type 0
StaysShown s h e = is_quiet e.event ≡ true → (missing : List TileKey) → shown_image s (e ∷ h) missing ≡ shown_image s h missing

-- there is a draw at this place of the entries, and one after this past that lists the same missing tiles would show this picture
pub record KeepsAt (s : ScriptModel) (h entries : List Entry) (picture : CanvasView) (place : ℕ) : Type 0 where
  pub drawn : Entry
  pub there : slice_get entries place ≡ Some drawn
  pub image : (missing : List TileKey) → missing_in drawn.event ≡ Some missing → image_of picture ≡ shown_image s h missing

-- the same if there is a place at all
abbrev pub KeepsFrom : ScriptModel → List Entry → List Entry → CanvasView → Option ℕ → Type 0
KeepsFrom s h entries picture None = ⊤
KeepsFrom s h entries picture (Some place) = KeepsAt s h entries picture place

abbrev pub Keeps : ScriptModel → List Entry → List Entry → LastDraw → Type 0
Keeps s h entries last = KeepsFrom s h entries last.painter.canvas last.place

-- the picture is what stands after the line of an event after this past
pub record Shows (s : ScriptModel) (h entries : List Entry) (e : Event) (last : LastDraw) : Type 0 where
  pub image : image_of last.painter.canvas ≡ image_behind s h e
  pub keeps : Keeps s h entries last
