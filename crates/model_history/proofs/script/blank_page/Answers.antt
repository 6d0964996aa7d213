use Rattle.model_history.specs.Scripts.{script_of}
use Rattle.model_history.proofs.Ranged.{has_head, has_view}
use Rattle.model_history.proofs.script.blank_page.Goals as goal

pub new-requires : goal.new-requires
new-requires c = has_view (script_of c.args.parts.now) (has_head (script_of c.args.parts.now) c.requires)
