-- A script: the top object, then the main frames, then the inputs.
use Rattle.std.specs.Prelude.{ℕ, List, length, codes, Option, Some, None, option_and_then, Result, Ok, if◌then◌else◌}
use Rattle.std.specs.Str.{bytes_eq}
use Rattle.serde_json.specs.Data.{Data, Items}
use Rattle.serde_json.specs.Find.{get, as_str}
use Rattle.geom.specs.Limits.{min_tile, max_tile, max_budget, max_frames, max_inputs, max_distance}
use Rattle.tile_priority.specs.declared.tree_priority.TreePriority.{TreePriority}
use Rattle.tile_priority.specs.declared.tree_priority.TreePriority.TheVariants.{Same, Smooth, New}
use Rattle.page_layers.specs.declared.command.Command.{Command}
use Rattle.model_history.specs.declared.input.Input.{Input}
use Rattle.model_history.specs.Ranges.{longest_side}
use Rattle.model_history.specs.Scripts.{ScriptModel}
use Rattle.script_fields.specs.declared.fault.FieldFault.{FieldFault}
use Rattle.script_fields.specs.Faults.{◌>>=◌, or_fault}
use Rattle.script_fields.specs.Fields.{object_at, number_at, sides_at, opaque_at, list_at, if_no_more}
use Rattle.script_json.specs.declared.fault.ShapeFault.{ShapeFault}
use Rattle.script_json.specs.declared.head.Head.{Head}
use Rattle.script_json.specs.Faults.{placed}
use Rattle.script_json.specs.CommandReading.{frames_at}
use Rattle.script_json.specs.InputReading.{inputs_at}

-- the priority of this name, and the one that a member names
unfoldable pub priority_named : List ℕ → Option TreePriority
priority_named s =
    if bytes_eq s (codes "same") then Some Same else
    (if bytes_eq s (codes "smooth") then Some Smooth else
    (if bytes_eq s (codes "new") then Some New else None))

unfoldable pub priority_at : ℕ → Data → Result TreePriority FieldFault
priority_at field d = or_fault field (option_and_then priority_named (option_and_then as_str (get (codes "priority") d)))

-- the first nine fields of the top object
unfoldable pub head_at : Data → Result Head FieldFault
head_at d = do
  _ ← object_at d
  version ← number_at (codes "version") 1 2 1 d
  viewport ← sides_at (codes "viewport") (longest_side version) 2 d
  tile ← number_at (codes "tile") min_tile max_tile 3 d
  background ← opaque_at (codes "background") 4 d
  budget ← number_at (codes "budget") 0 max_budget 5 d
  raster_per_frame ← number_at (codes "raster_per_frame") 0 max_budget 6 d
  soon ← number_at (codes "soon") 0 max_distance 7 d
  eventually ← number_at (codes "eventually") soon max_distance 8 d
  priority ← priority_at 9 d
  Ok (record { version = version; viewport = viewport; tile = tile; background = background; budget = budget; raster_per_frame = raster_per_frame; soon = soon; eventually = eventually; priority = priority })

-- the main frames and the inputs, as lists of values: the last two fields of the top object, then further fields
pub record ScriptLists : Type 0 where
  pub main : Items
  pub inputs : Items

unfoldable pub lists_at : Data → Result ScriptLists FieldFault
lists_at d = do
  main ← list_at (codes "main") max_frames 10 d
  inputs ← list_at (codes "inputs") max_inputs 11 d
  if_no_more 11 d (record { main = main; inputs = inputs })

-- the script of a head, main frames and inputs
abbrev pub with_lists : Head → List (List Command) → List Input → ScriptModel
with_lists head main inputs = record {
  version = head.version;
  viewport_w = head.viewport.w;
  viewport_h = head.viewport.h;
  tile = head.tile;
  background = head.background;
  budget = head.budget;
  raster_per_frame = head.raster_per_frame;
  soon = head.soon;
  eventually = head.eventually;
  priority = head.priority;
  main = main;
  inputs = inputs;
}

-- a script, whose commands are not looked at yet; its first fault is in the top object, else in a main frame, else in an input
unfoldable pub parts_at : Data → Result ScriptModel ShapeFault
parts_at d = do
  head ← placed 0 0 (head_at d)
  lists ← placed 0 0 (lists_at d)
  main ← frames_at head.version 2 lists.main
  inputs ← inputs_at (length main) 0 0 lists.inputs
  Ok (with_lists head main inputs)
