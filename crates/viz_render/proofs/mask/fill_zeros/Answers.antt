-- A list of zeros.
use Rattle.std.proofs.Common.{ap, ◌∙◌, length, slice_index, List, ℕ, arith}
use Rattle.viz_render.proofs.MarkSteps.{zeros}
use Rattle.viz_render.proofs.mask.fill_zeros.Goals as goal

pub returns-clause-none : goal.returns-clause-none
returns-clause-none c = λ i.
    let none = ap (λ (xs : List ℕ). slice_index xs i) (c.fill.ensures.after (λ y e. e)) ∙ zeros (length c.args.tops.now) i in
    omega arith
