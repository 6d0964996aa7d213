-- Each lane is the digit of its number.
use Rattle.script_fields.proofs.Eights.{digit_lanes}
use Rattle.script_fields.proofs.digits.digit_lanes.Goals as goal

pub returns : goal.returns
returns c = digit_lanes c.args.numbers c.requires.0 c.requires.1
