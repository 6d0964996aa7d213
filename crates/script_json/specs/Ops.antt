-- The name of a command.
use Rattle.std.specs.Prelude.{ℕ, codes, Some, None, option_and_then, Result, if◌then◌else◌}
use Rattle.serde_json.specs.Data.{Data}
use Rattle.serde_json.specs.Find.{get, as_str}
use Rattle.page_layers.specs.declared.command.Op.{Op}
use Rattle.page_layers.specs.CommandFields.{op_named}
use Rattle.model_history.specs.Ranges.{is_of_version}
use Rattle.script_fields.specs.declared.fault.FieldFault.{FieldFault}
use Rattle.script_fields.specs.Faults.{or_fault}

-- the command that a member `op` names; a fault of field 0 if the version has no such
unfoldable pub op_at : ℕ → Data → Result Op FieldFault
op_at version d =
    or_fault 0 (option_and_then (λ o. if is_of_version version o then Some o else None) (option_and_then op_named (option_and_then as_str (get (codes "op") d))))
