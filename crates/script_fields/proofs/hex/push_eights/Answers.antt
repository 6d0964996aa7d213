-- Eight more bytes are read.
use Rattle.std.proofs.Common.{◌+◌, List, ℕ, drop, sym, ap, ◌∙◌, arith}
use Rattle.script_fields.specs.Hex.{bytes_of}
use Rattle.script_fields.specs.inner.Fronts.{after}
use Rattle.script_fields.proofs.Eights.{eight_read}
use Rattle.script_fields.proofs.hex.push_eights.Goals as goal

pub loop-at-preserved : goal.loop-at-preserved
loop-at-preserved c =
    let text = c.args.text.now in
    let at = c.loop-at.at in
    record {
      inside = omega arith;
      read =
          ap (λ (items : List ℕ). after items (bytes_of (drop (at + 16) text))) c.in_ok-extend_from_slice.ensures.items
          ∙ sym (eight_read c.loop-at.bytes.items text c.in-Some.eight at (omega arith) c.in-Some.ensures)
          ∙ c.loop-at.invariant.read;
    }
