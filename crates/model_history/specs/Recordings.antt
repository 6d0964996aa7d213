-- A recording: the script and the events of a run, with each picture that it drew.
use Rattle.std.specs.Prelude.{ℕ, zero, suc, pos, List, [], ◌∷◌, ◌++◌, codes, decimal}
use Rattle.geom.specs.declared.tile.TileKey.{TileKey}
use Rattle.pixel.specs.Colours.{Parts}
use Rattle.page_layers.specs.TreePainting.{paint}
use Rattle.model_history.specs.declared.event.Event.{Event}
use Rattle.model_history.specs.declared.event.Event.TheVariants as event
use Rattle.model_history.specs.declared.history.Entry.{Entry}
use Rattle.model_history.specs.Texts.{event_line}
use Rattle.model_history.specs.Scripts.{ScriptModel}
use Rattle.model_history.specs.Frames.{active_page}
use Rattle.model_history.specs.Scrolls.{active_offsets}

-- f 0, f 1, .., f (n - 1), joined one after another
unfoldable pub joined_to : {X : Type 0} → ℕ → (ℕ → List X) → List X
joined_to zero f = []
joined_to (suc n) f = joined_to n f ++ f n

-- the head of a raw portable pixmap
unfoldable pub image_head : ℕ → ℕ → List ℕ
image_head w h = (((codes "P6\n" ++ decimal w) ++ codes " ") ++ decimal h) ++ codes "\n255\n"

-- a row of a picture, from the left, and a pixel in it: red, green and blue
abbrev pub rgb : Parts → List ℕ
rgb c = c.r ∷ c.g ∷ c.b ∷ []

unfoldable pub image_row : (ℕ → ℕ → Parts) → ℕ → ℕ → List ℕ
image_row pixel w y = joined_to w (λ x. rgb (pixel x y))

-- a picture of w by h whose pixel at column x and row y is `pixel x y`: a head with the size, and then the pixels, rows from the top
unfoldable pub image : (ℕ → ℕ → Parts) → ℕ → ℕ → List ℕ
image pixel w h = image_head w h ++ joined_to h (image_row pixel w)

-- what the screen shows at column x and row y after a past, with these tiles missing: the painting of the active page at the offsets of its scrollers
abbrev pub screen_colour : ScriptModel → List Entry → List TileKey → ℕ → ℕ → Parts
screen_colour s h missing x y = paint (active_page s h) (active_offsets s h) missing s.background (pos x) (pos y)

-- the image of what the screen shows, as large as the view of the active page
unfoldable pub shown_image : ScriptModel → List Entry → List TileKey → List ℕ
shown_image s h missing = image (screen_colour s h missing) (active_page s h).view.w (active_page s h).view.h

-- what stands after the line of an event that came after a past: after that of a draw the image of what it shows, with the tiles missing that it lists
abbrev pub image_behind : ScriptModel → List Entry → Event → List ℕ
image_behind s h (event.Draw input missing) = shown_image s h missing
image_behind s h _ = []

-- what an event adds to a recording; what these entries add after a past, one after another
unfoldable pub piece : ScriptModel → List Entry → Event → List ℕ
piece s h e = event_line e ++ image_behind s h e

abbrev pub pieces : ScriptModel → List Entry → List Entry → List ℕ
pieces s h [] = []
pieces s h (e ∷ es) = piece s h e.event ++ pieces s (e ∷ h) es

-- the two lines before the events: the name of the format, and the script
unfoldable pub header : List ℕ → List ℕ
header script = (codes "cc1\n" ++ script) ++ codes "\n"

-- the recording of a script and a history, if the script's line is this text: the format's name, that line, and then what each entry adds
unfoldable pub recorded : List ℕ → ScriptModel → List Entry → List ℕ
recorded line s history = header line ++ pieces s [] history
