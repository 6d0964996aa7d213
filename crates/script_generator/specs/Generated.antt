-- The script of a number: a page that scrolls under a header, whose items change from frame to frame.
use Rattle.std.specs.Prelude.{ℕ, zero, suc, pos, ◌+◌, ◌-ℤ◌, ◌==◌, ◌%◌, Bool, cond, List, [], ◌∷◌, ◌++◌}
use Rattle.geom.specs.declared.rect.Rect.{Rect}
use Rattle.pixel.specs.Colours.{Parts}
use Rattle.page_display_list.specs.declared.item.Item.{Item}
use Rattle.page_display_list.specs.declared.item.Item.TheVariants as item
use Rattle.tile_priority.specs.declared.tree_priority.TreePriority.{TreePriority}
use Rattle.tile_priority.specs.declared.tree_priority.TreePriority.TheVariants as tree_priority
use Rattle.page_layers.specs.declared.command.Command.{Command}
use Rattle.page_layers.specs.declared.command.Command.TheVariants as command
use Rattle.model_history.specs.declared.input.Input.{Input}
use Rattle.model_history.specs.declared.input.Input.TheVariants as input
use Rattle.model_history.specs.Scripts.{ScriptModel}
use Rattle.script_generator.specs.Draws.{after_draws, drawn}

-- an opaque colour
abbrev pub opaque : ℕ → ℕ → ℕ → Parts
opaque r g b = record { r = r; g = g; b = b; a = 255 }

-- a rect at these places
abbrev pub rect : ℕ → ℕ → ℕ → ℕ → Rect
rect x y w h = record { x = pos x; y = pos y; w = pos w; h = pos h }

-- an item of seven draws: its place, its size and its colour
unfoldable pub drawn_item : ℕ → Item
drawn_item x = item.Rect (rect (drawn x 0 240) (drawn x 1 2160) (8 + drawn x 2 60) (8 + drawn x 3 60)) (opaque (drawn x 4 256) (drawn x 5 256) (drawn x 6 256))

-- whose tiles come first: one draw
unfoldable pub priority_given : ℕ → TreePriority
priority_given zero = tree_priority.Same
priority_given (suc zero) = tree_priority.Smooth
priority_given (suc (suc n)) = tree_priority.New

-- the nodes of the page: a scroller with its transform, a clip as large as the viewport, and a translucent effect
abbrev pub node_commands : List Command
node_commands =
    command.AddScroller (record { id = 1; parent = 0; max_x = 0; max_y = 2000 })
    ∷ command.AddTransform (record { id = 1; parent = 0; x = (pos 0); y = (pos 0); scroller = 1 })
    ∷ command.AddClip (record { id = 1; parent = 0; transform = 0; rect = (rect 0 0 256 192) })
    ∷ command.AddEffect (record { id = 1; parent = 0; opacity = 200 })
    ∷ []

-- its layers: layer 1 scrolls, layer 2 is a header above it, of one item
abbrev pub layer_commands : List Command
layer_commands =
    command.AddLayer (record { id = 1; at = 0; transform = 1; clip = 1; effect = 0; w = 256; h = 2192; colour = (opaque 221 221 221) })
    ∷ command.AddLayer (record { id = 2; at = 1; transform = 0; clip = 0; effect = 1; w = 256; h = 24; colour = (opaque 0 0 0) })
    ∷ command.InsertItem (record { layer = 2; at = 0; item = (item.Rect (rect 0 0 256 24) (opaque 32 32 64)) })
    ∷ []

-- the given number of drawn items, put into layer 1 one after another from this place on
unfoldable pub inserts : ℕ → ℕ → ℕ → List Command
inserts x at zero = []
inserts x at (suc n) = command.InsertItem (record { layer = 1; at = at; item = (drawn_item x) }) ∷ inserts (after_draws x 7) (suc at) n

-- the commands that make the page
abbrev pub page_commands : List Command
page_commands = node_commands ++ layer_commands

-- main frame 0
abbrev pub first_frame : ℕ → List Command
first_frame x = page_commands ++ inserts x 0 200

-- each fifth of the later main frames is empty
abbrev pub is_empty_frame : ℕ → Bool
is_empty_frame k = k % 5 == 0

-- a later main frame: of those that are not empty the odd ones replace an item of layer 1, the even ones scroll
unfoldable pub later_frame : ℕ → ℕ → List Command
later_frame k x =
    cond (is_empty_frame k) []
    (cond (k % 2 == 1) (command.ReplaceItem (record { layer = 1; at = (drawn x 0 200); item = (drawn_item (after_draws x 1)) }) ∷ []) (command.ScrollBy (record { id = 1; dx = (pos 0); dy = (pos (drawn x 0 40)) }) ∷ []))

-- how many draws it takes
abbrev pub frame_draws : ℕ → ℕ
frame_draws k = cond (is_empty_frame k) 0 (cond (k % 2 == 1) 8 1)

-- the given number of later frames from number k on
unfoldable pub later_frames : ℕ → ℕ → ℕ → List (List Command)
later_frames x k zero = []
later_frames x k (suc n) = later_frame k x ∷ later_frames (after_draws x (frame_draws k)) (suc k) n

-- the number that the generator keeps after these frames
unfoldable pub after_frames : ℕ → ℕ → ℕ → ℕ
after_frames x k zero = x
after_frames x k (suc n) = after_frames (after_draws x (frame_draws k)) (suc k) n

-- an input: one in four is a scroll up or down, the others are draws
unfoldable pub drawn_input : ℕ → Input
drawn_input x = cond (drawn x 0 4 == 0) (input.Scroll 1 (pos 0) (pos (drawn x 1 401) -ℤ pos 200)) input.Draw

-- how many draws an input takes of the generator
abbrev pub input_draws : ℕ → ℕ
input_draws x = cond (drawn x 0 4 == 0) 2 1

-- the given number of them
unfoldable pub drawn_inputs : ℕ → ℕ → List Input
drawn_inputs x zero = []
drawn_inputs x (suc n) = drawn_input x ∷ drawn_inputs (after_draws x (input_draws x)) n

-- the main frames, and the inputs, if the generator keeps this number
abbrev pub frames : ℕ → List (List Command)
frames x = first_frame x ∷ later_frames (after_draws x 1400) 1 20

abbrev pub inputs : ℕ → List Input
inputs x = input.Await 0 ∷ drawn_inputs x 200 ++ input.Settle ∷ input.Draw ∷ []

-- the script of this priority, if the generator keeps this number after the draw of the priority
abbrev pub script_after : TreePriority → ℕ → ScriptModel
script_after priority x = record {
  version = 1;
  viewport_w = 256;
  viewport_h = 192;
  tile = 32;
  background = opaque 255 255 255;
  budget = 64;
  raster_per_frame = 6;
  soon = 64;
  eventually = 128;
  priority = priority;
  main = frames x;
  inputs = inputs (after_frames (after_draws x 1400) 1 20);
}

-- the script of a number below 2^64: the priority is drawn first, then the frames in their order, then the inputs
unfoldable pub script_of_number : ℕ → ScriptModel
script_of_number number = script_after (priority_given (drawn number 0 3)) (after_draws number 1)
