-- The script that a plan stands for.
use Rattle.std.specs.Prelude.{map}
use Rattle.model_history.specs.declared.plan_parts.PlanParts.{PlanParts}
use Rattle.model_history.specs.Scripts.{ScriptModel}

-- the script of these numbers that has the main frames and the inputs that only clauses read
abbrev pub planned : PlanParts → ScriptModel
planned p = record {
  version = p.version;
  viewport_w = p.viewport_w;
  viewport_h = p.viewport_h;
  tile = p.tile;
  background = p.background;
  budget = p.budget;
  raster_per_frame = p.raster_per_frame;
  soon = p.soon;
  eventually = p.eventually;
  priority = p.priority;
  main = map (λ frame. frame.items) p.main.items;
  inputs = p.inputs.items;
}
