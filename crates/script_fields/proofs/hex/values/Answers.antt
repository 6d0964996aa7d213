-- Each lane is the value of its digit.
use Rattle.script_fields.proofs.Eights.{value_lanes}
use Rattle.script_fields.proofs.hex.values.Goals as goal

pub returns : goal.returns
returns c = value_lanes c.args.digits c.requires.count
