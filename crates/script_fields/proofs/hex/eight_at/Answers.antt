-- The lanes are the digits of the text.
use Rattle.std.proofs.Common.{arith}
use Rattle.pixel.proofs.LaneWise.{loaded}
use Rattle.script_fields.proofs.Eights.{eight_known}
use Rattle.script_fields.proofs.hex.eight_at.Goals as goal

pub values-values-requires : goal.values-values-requires
values-values-requires c = loaded c.args.text.now c.args.at c.requires c.type_inv.text

pub returns-then-are_values : goal.returns-then-are_values
returns-then-are_values c =
    eight_known c.args.text.now c.values-values.result c.args.at (λ i. omega (arith, c.type_inv.text i)) c.requires c.values-values.ensures
    (c.are_values.ensures c.if-are_values.true) c.joined.result c.joined.ensures.size c.joined.ensures.bytes
