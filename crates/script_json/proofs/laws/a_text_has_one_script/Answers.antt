use Rattle.script_json.proofs.ScriptLaws.{one_script}
use Rattle.script_json.proofs.laws.a_text_has_one_script.Goals as goal

pub returns : goal.returns
returns c = one_script
