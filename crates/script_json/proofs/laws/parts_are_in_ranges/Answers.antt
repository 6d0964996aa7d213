use Rattle.script_json.proofs.ScriptLaws.{parts_are_in_ranges}
use Rattle.script_json.proofs.laws.parts_are_in_ranges.Goals as goal

pub returns : goal.returns
returns c = parts_are_in_ranges
