-- The digits of the upper and of the lower halves in turn.
use Rattle.script_fields.proofs.Eights.{high_fits, low_fits, high_turn, low_turn}
use Rattle.script_fields.proofs.digits.sixteen_of.Goals as goal

pub digit_lanes-high-requires : goal.digit_lanes-high-requires
digit_lanes-high-requires c = high_fits c.args.bytes c.requires.0 c.requires.1

pub digit_lanes-low-requires : goal.digit_lanes-low-requires
digit_lanes-low-requires c = low_fits c.args.bytes c.requires.0

pub returns-clause-high : goal.returns-clause-high
returns-clause-high c =
    high_turn c.args.bytes c.requires.0 c.digit_lanes-high.result c.digit_lanes-low.result c.digit_lanes-high.ensures c.digit_lanes-low.ensures

pub returns-clause-low : goal.returns-clause-low
returns-clause-low c =
    low_turn c.args.bytes c.requires.0 c.digit_lanes-high.result c.digit_lanes-low.result c.digit_lanes-high.ensures c.digit_lanes-low.ensures
