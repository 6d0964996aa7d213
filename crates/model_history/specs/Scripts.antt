-- What a script says.
use Rattle.std.specs.Prelude.{ℕ, List, map}
use Rattle.pixel.specs.Colours.{Parts}
use Rattle.tile_priority.specs.declared.tree_priority.TreePriority.{TreePriority}
use Rattle.page_layers.specs.declared.command.Command.{Command}
use Rattle.model_history.specs.declared.input.Input.{Input}
use Rattle.model_history.specs.declared.script_parts.ScriptParts.{ScriptParts}

-- all that a script says, without addresses: the commands of each main frame, the inputs, and what holds for the whole run
pub record ScriptModel : Type 0 where
  pub version : ℕ
  pub viewport_w : ℕ
  pub viewport_h : ℕ
  pub tile : ℕ
  pub background : Parts
  pub budget : ℕ
  pub raster_per_frame : ℕ
  pub soon : ℕ
  pub eventually : ℕ
  pub priority : TreePriority
  pub main : List (List Command)
  pub inputs : List Input

-- the script that these parts are: the same numbers, and the lists' elements alone
abbrev pub script_of : ScriptParts → ScriptModel
script_of p = record {
  version = p.version;
  viewport_w = p.viewport_w;
  viewport_h = p.viewport_h;
  tile = p.tile;
  background = p.background;
  budget = p.budget;
  raster_per_frame = p.raster_per_frame;
  soon = p.soon;
  eventually = p.eventually;
  priority = p.priority;
  main = map (λ frame. frame.items) p.main.items;
  inputs = p.inputs.items;
}
