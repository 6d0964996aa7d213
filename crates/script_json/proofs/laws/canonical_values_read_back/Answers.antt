use Rattle.script_json.proofs.ScriptLaws.{parts_again}
use Rattle.script_json.proofs.laws.canonical_values_read_back.Goals as goal

pub returns : goal.returns
returns c = parts_again
