-- The JSON values of commands and main frames.
use Rattle.std.specs.Prelude.{List, codes, map}
use Rattle.serde_json.specs.Data.{Data, string, array, object, Members, no_members, member}
use Rattle.serde_json.specs.View.{items_of}
use Rattle.page_layers.specs.declared.command.Command.{Command}
use Rattle.page_layers.specs.declared.command.Op.{Op}
use Rattle.script_json.specs.FieldLists.{with_members}
use Rattle.page_layers.specs.CommandFields.{op_name, fields, op_of, values_of}
use Rattle.page_layers.specs.FieldForms.{Row}

-- the members of a command of this name: `op`, and its fields
abbrev pub op_members : (o : Op) → Row (fields o) → Members
op_members o row = with_members (fields o) row (member (codes "op") (string (op_name o)) no_members)

-- a command
unfoldable pub command_data : Command → Data
command_data c = object (op_members (op_of c) (values_of c))

-- a main frame: the list of its commands
unfoldable pub frame_data : List Command → Data
frame_data commands = array (items_of (map command_data commands))
