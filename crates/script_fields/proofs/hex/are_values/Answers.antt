-- No lane is above 15.
use Rattle.script_fields.proofs.Eights.{all_values}
use Rattle.script_fields.proofs.hex.are_values.Goals as goal

pub returns : goal.returns
returns c = λ e. all_values c.args.values c.requires e
