-- One more row has its place.
use Rattle.std.proofs.Common.{ℕ, ◌≡◌, ◌≤◌, ◌+◌, true, false, List, [], ◌∷◌, ◌++◌, length, slice_index, subst, sym, ap, ◌∙◌, arith}
use Rattle.std.specs.Prelude.{slice_index_or}
use Rattle.tile_raster.specs.inner.Bands.{IsStep}
use Rattle.tile_raster.proofs.Places.{one_if, steps_more, small_more, count_more}
use Rattle.tile_raster.proofs.picture_rows.places_of.Goals as goal

pub loop-places-preserved : goal.loop-places-preserved
loop-places-preserved c =
    let before = c.loop-places.invariant in
    let old = c.loop-places.places.items in
    let p = c.next_place-place.result in
    let new : c.push.new.self.items ≡ old ++ p ∷ [] = c.in_ok-push.ensures.items in
    let longer : length c.push.new.self.items ≡ length old + 1 = ap length new ∙ count_more old p in
    let first = subst (λ (ps : List ℕ). length ps ≡ 0 → p ≡ 0) c.deref.ensures.value c.next_place-place.ensures.first in
    let next =
    subst (λ (ps : List ℕ). (k : ℕ) → k + 1 ≡ length ps → p ≡ slice_index ps k + one_if (slice_index_or c.args.changes.now (k + 1) true))
    c.deref.ensures.value c.next_place-place.ensures.next in
    record {
      count = omega (arith, longer, c.loop-places-test.true);
      small = λ k lt.
          subst (λ (ps : List ℕ). slice_index ps k ≤ k) (sym new)
          (small_more old p (λ i. slice_index_or c.args.changes.now i true) before.small first next k (omega (arith, longer)));
      steps = λ k lt.
          subst (λ (ps : List ℕ). IsStep (λ y. slice_index_or c.args.changes.now (y + 1) true ≡ false) ps k) (sym new)
          (steps_more old p (λ i. slice_index_or c.args.changes.now i true) before.steps next k (omega (arith, longer)));
    }
