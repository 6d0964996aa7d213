use Rattle.script_json.proofs.ScriptLaws.{parts_again}
use Rattle.script_json.proofs.laws.accepted_scripts_read_back.Goals as goal

pub returns : goal.returns
returns c = λ s a. parts_again s a.ranges
