-- A list of zeros.
use Rattle.std.proofs.Common.{ℕ, List, length, slice_index, ap, ◌∙◌, arith}
use Rattle.std.proofs.lemmas.List.{length-replicate}
use Rattle.viz_render.proofs.MarkSteps.{zeros}
use Rattle.viz_render.proofs.mask.Mask.new.Goals as goal

pub invariant_of-result : goal.invariant_of-result
invariant_of-result c =
    let same = c.in_ok-tops.ensures.items_if_clones_equal (λ y e. e) in
    record {
      room = ap length same ∙ length-replicate {A = ℕ} 1032 0;
      bound = λ i. let none = ap (λ (xs : List ℕ). slice_index xs i) same ∙ zeros 1032 i in omega arith;
    }
