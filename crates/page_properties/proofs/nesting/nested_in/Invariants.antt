-- The layers so far are nested, and their effects are marked.
use Rattle.page_properties.proofs.Marks.{IsMet}
use Rattle.page_properties.proofs.nesting.nested_in.Given as goal

abbrev pub invariant-loop-effect : goal.invariant-loop-effect
invariant-loop-effect l = IsMet l.effects l.layers l.effect-index l.met l.last
