-- The elements of a slice of bytes are below 256.
use Rattle.std.proofs.Common.{arith}
use Rattle.script_fields.proofs.Quoted.{bytes_plain}
use Rattle.script_fields.proofs.digits.are_plain.Goals as goal

pub returns : goal.returns
returns c = bytes_plain c.args._bytes.now (λ i lt. omega (arith, c.type_inv._bytes i))
