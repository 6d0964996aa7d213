-- Sixteen more.
use Rattle.std.proofs.Common.{◌≡◌, ℕ, ◌+◌, ◌-◌, inl, inr, subst, arith}
use Rattle.std.proofs.lemmas.Bool.{cases_lt}
use Rattle.pixel.specs.Colours.{blend}
use Rattle.pixel.specs.Rows.{pixel}
use Rattle.pixel.proofs.sixteen.opaque_run.Goals as goal

pub loop-run-preserved : goal.loop-run-preserved
loop-run-preserved c = record {
  most = omega (arith, c.loop-run-test.true);
  opaque = λ j lt below.
      elim (cases_lt j c.loop-run.run) as (λ _. pixel c.args.row.now (c.args.k + j) ≡ blend below (pixel c.args.row.now (c.args.k + j))) [
        | inl low ↦ c.loop-run.invariant.opaque j low below
        | inr from ↦
            let there : c.args.k + c.loop-run.run + (j - c.loop-run.run) ≡ c.args.k + j = omega arith in
            subst (λ (i : ℕ). pixel c.args.row.now i ≡ blend below (pixel c.args.row.now i)) there
            (c.are_sixteen_opaque.ensures c.if-not-are_sixteen_opaque.false (j - c.loop-run.run) (omega arith) below)
      ];
}
