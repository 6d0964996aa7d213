-- The digits of eight more bytes are written.
use Rattle.std.proofs.Common.{◌+◌, ◌++◌, List, ℕ, drop, ap, ◌∙◌, arith}
use Rattle.script_fields.specs.Hex.{bytes_digits}
use Rattle.script_fields.proofs.Eights.{eight_written, eight_loaded}
use Rattle.script_fields.proofs.digits.push_sixteens.Goals as goal

pub loop-at-preserved : goal.loop-at-preserved
loop-at-preserved c =
    let bytes = c.args.bytes.now in
    let at = c.loop-at.at in
    record {
      inside = omega arith;
      written =
          ap (λ (items : List ℕ). items ++ bytes_digits (drop (at + 8) bytes)) c.in_ok-extend_from_slice.ensures.items
          ∙ eight_written c.loop-at.digits.items bytes c.sixteen_of.result at (omega arith) c.sixteen_of.ensures.size c.sixteen_of.ensures.high
          c.sixteen_of.ensures.low
          ∙ c.loop-at.invariant.written;
    }

pub sixteen_of-requires : goal.sixteen_of-requires
sixteen_of-requires c = eight_loaded c.args.bytes.now c.loop-at.at (λ i. omega (arith, c.type_inv.bytes i)) (omega arith)
