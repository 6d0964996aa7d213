-- Sixteen pixels more.
use Rattle.std.proofs.Common.{◌≡◌, ◌+◌, ◌*◌, ◌/◌, ◌∙◌, ap, inl, inr, slice_index, arith}
use Rattle.std.proofs.lemmas.Bool.{cases_lt}
use Rattle.pixel.specs.Rows.{pixel}
use Rattle.viz_occlusion.proofs.opaque.opaque_until.Goals as goal

pub loop-k-preserved : goal.loop-k-preserved
loop-k-preserved c = record {
  low = omega (arith, c.loop-k.invariant.low);
  high = omega (arith, c.loop-k-test.true);
  opaque = λ j from to.
      elim (cases_lt j c.loop-k.k) as (λ _. (pixel c.args.row.now j).a ≡ 255) [
        | inl low ↦ c.loop-k.invariant.opaque j from low
        | inr high ↦
            let place : 4 * j + 3 ≡ 4 * (4 * j / 4) + 3 = omega arith in
            ap (slice_index c.args.row.now) place ∙ c.is_opaque.ensures c.if-is_opaque.true (4 * j) (omega arith) (omega arith)
      ];
}
