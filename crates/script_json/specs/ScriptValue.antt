-- The JSON value of a script: its compact text is the script's canonical text.
use Rattle.std.specs.Prelude.{ℕ, List, codes, map}
use Rattle.serde_json.specs.Data.{Data, string, array, object, member, no_members}
use Rattle.serde_json.specs.View.{items_of}
use Rattle.page_layers.specs.declared.command.Command.{Command}
use Rattle.model_history.specs.declared.input.Input.{Input}
use Rattle.tile_priority.specs.declared.tree_priority.TreePriority.{TreePriority}
use Rattle.tile_priority.specs.declared.tree_priority.TreePriority.TheVariants.{Same, Smooth, New}
use Rattle.model_history.specs.Scripts.{ScriptModel}
use Rattle.script_fields.specs.Values.{number_data, opaque_data, sides_data}
use Rattle.script_json.specs.CommandValues.{frame_data}
use Rattle.script_json.specs.InputValues.{input_data}

-- the name of a priority
abbrev pub priority_name : TreePriority → List ℕ
priority_name Same = codes "same"
priority_name Smooth = codes "smooth"
priority_name New = codes "new"

-- the main frames
unfoldable pub main_data : List (List Command) → Data
main_data main = array (items_of (map frame_data main))

-- the inputs
unfoldable pub inputs_data : List Input → Data
inputs_data inputs = array (items_of (map input_data inputs))

-- a script, the members in the order of their names
unfoldable pub parts_data : ScriptModel → Data
parts_data s =
    object (member (codes "background") (opaque_data s.background)
    (member (codes "budget") (number_data s.budget)
    (member (codes "eventually") (number_data s.eventually)
    (member (codes "inputs") (inputs_data s.inputs)
    (member (codes "main") (main_data s.main)
    (member (codes "priority") (string (priority_name s.priority))
    (member (codes "raster_per_frame") (number_data s.raster_per_frame)
    (member (codes "soon") (number_data s.soon)
    (member (codes "tile") (number_data s.tile)
    (member (codes "version") (number_data s.version)
    (member (codes "viewport") (sides_data s.viewport_w s.viewport_h)
    no_members)))))))))))
