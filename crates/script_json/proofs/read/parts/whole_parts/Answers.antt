use Rattle.script_json.proofs.ScriptLaws.{parts_are_in_ranges}
use Rattle.script_json.proofs.read.parts.whole_parts.Goals as goal

pub returns-in-Ok-parts-clause-ranges : goal.returns-in-Ok-parts-clause-ranges
returns-in-Ok-parts-clause-ranges c = parts_are_in_ranges _ _ c.in-Ok-parts.ensures.value
