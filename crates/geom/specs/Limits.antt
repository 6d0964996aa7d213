-- The limits of a page and of a script.
use Rattle.std.specs.Prelude.{ℕ}

-- the greatest id of a layer or a node; how many nodes a family of a property tree has at most, layers a page, items a display list
abbrev pub max_id : ℕ
max_id = 65535

abbrev pub max_nodes : ℕ
max_nodes = 256

abbrev pub max_layers : ℕ
max_layers = 64

abbrev pub max_items : ℕ
max_items = 256

-- the longest side of a layer, and how far from its origin an item may lie
abbrev pub max_side : ℕ
max_side = 16384

-- the longest side of a viewport, and of one in a script of version 1
abbrev pub max_viewport : ℕ
max_viewport = 2048

abbrev pub max_first_viewport : ℕ
max_first_viewport = 1024

-- the shortest and the longest side of a tile
abbrev pub min_tile : ℕ
min_tile = 16

abbrev pub max_tile : ℕ
max_tile = 256

-- how far a transform moves at most along an axis, and how far from the origin a clip lies at most
abbrev pub max_offset : ℕ
max_offset = 65536

-- the greatest end of a scroll range, and how far one scroll goes at most
abbrev pub max_scroll : ℕ
max_scroll = 1048576

-- how many main frames a script has at most, how many inputs, and how many of these are draws
abbrev pub max_frames : ℕ
max_frames = 4096

abbrev pub max_inputs : ℕ
max_inputs = 65536

abbrev pub max_draws : ℕ
max_draws = 4096

-- the greatest budget of tiles, and the most tiles that are rastered in a frame
abbrev pub max_budget : ℕ
max_budget = 4096

-- the greatest distance from the viewport that is soon or eventually in view
abbrev pub max_distance : ℕ
max_distance = 512
