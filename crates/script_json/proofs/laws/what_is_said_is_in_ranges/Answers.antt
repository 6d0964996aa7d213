use Rattle.script_json.specs.ScriptValue.{parts_data}
use Rattle.script_json.proofs.ScriptLaws.{parts_again, parts_are_in_ranges}
use Rattle.script_json.proofs.laws.what_is_said_is_in_ranges.Goals as goal

pub returns-clause-ranges : goal.returns-clause-ranges
returns-clause-ranges c = λ s is. parts_are_in_ranges is.0 s is.1

pub returns-clause-said : goal.returns-clause-said
returns-clause-said c = λ s ranges. (parts_data s, parts_again s ranges)
