-- Commands, and the main frames that list them.
use Rattle.std.specs.Prelude.{ℕ, ◌+◌, List, [], Result, Ok}
use Rattle.serde_json.specs.Data.{Data, Items, no_items, item}
use Rattle.serde_json.specs.Find.{as_array}
use Rattle.page_layers.specs.declared.command.Command.{Command}
use Rattle.script_fields.specs.declared.fault.FieldFault.{FieldFault}
use Rattle.script_fields.specs.Faults.{◌>>=◌, or_fault}
use Rattle.script_fields.specs.Fields.{object_at}
use Rattle.script_json.specs.declared.fault.ShapeFault.{ShapeFault}
use Rattle.page_layers.specs.declared.command.Op.{Op}
use Rattle.script_json.specs.Faults.{placed, before_rest}
use Rattle.script_json.specs.Ops.{op_at}
use Rattle.script_json.specs.FieldLists.{made_at}
use Rattle.page_layers.specs.CommandFields.{fields, make}

-- the fields of the command with this name, in their order, then further fields
unfoldable pub fields_at : Op → Data → Result Command FieldFault
fields_at o d = made_at (fields o) (make o) 1 d

-- a command: an object, its name, its fields
unfoldable pub command_at : ℕ → Data → Result Command FieldFault
command_at version d = do
  _ ← object_at d
  name ← op_at version d
  fields_at name d

-- the commands of a main frame from the one at `index` on
abbrev pub commands_at : ℕ → ℕ → ℕ → Items → Result (List Command) ShapeFault
commands_at version list index no_items = Ok []
commands_at version list index (item d ds) =
    before_rest (placed list index (command_at version d)) (commands_at version list (index + 1) ds)

-- a main frame; a value that is no list is a fault of field 98
unfoldable pub frame_at : ℕ → ℕ → Data → Result (List Command) ShapeFault
frame_at version list d = placed list 0 (or_fault 98 (as_array d)) >>= commands_at version list 0

-- the main frames from the one whose list is `list` on
abbrev pub frames_at : ℕ → ℕ → Items → Result (List (List Command)) ShapeFault
frames_at version list no_items = Ok []
frames_at version list (item d ds) =
    before_rest (frame_at version list d) (frames_at version (list + 1) ds)
