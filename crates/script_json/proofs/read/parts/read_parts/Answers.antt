use Rattle.script_json.proofs.ScriptLaws.{parts_are_in_ranges}
use Rattle.script_json.proofs.read.parts.read_parts.Goals as goal

pub returns-in-Ok-clause-ranges : goal.returns-in-Ok-clause-ranges
returns-in-Ok-clause-ranges c = parts_are_in_ranges _ _ c.in-Ok.ensures.text.2
