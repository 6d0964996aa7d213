use Rattle.std.proofs.Common.{refl}
use Rattle.model_states.specs.declared.kind.Kind.TheVariants as kind
use Rattle.model_lockstep.specs.Walks as ways
use Rattle.model_lockstep.proofs.Fronts as fronts
use Rattle.model_lockstep.proofs.Parts as parts
use Rattle.model_lockstep.proofs.Following.{then', rest, joined, refused, last_refused, in_any_case, then_on_error, then_on_ok}
use Rattle.model_lockstep.proofs.pairs.start_and_make.Goals as goal

pub returns-in_err-enter-clause-err : goal.returns-in_err-enter-clause-err
returns-in_err-enter-clause-err g c = in_any_case _ _ (refused (then' (ways.entering kind.Start 2) (ways.entering kind.Done 2)) _ _ (λ s. fronts.both _ _ (parts.own_grows kind.Start 2 s) (parts.own_grows kind.Done 2 s)) c.requires c.in_err-enter.ensures.err)

pub enter-requires-2 : goal.enter-requires-2
enter-requires-2 g c = record { actor = refl; can = rest (ways.entering kind.Start 2) (ways.entering kind.Done 2) _ _ parts.start_good c.requires c.in_ok-enter.ensures.ok }

pub returns-clause-err : goal.returns-clause-err
returns-clause-err g c = then_on_error _ _ _ c.enter-2.ensures.err (λ e. last_refused (ways.entering kind.Start 2) kind.Done 2 _ _ _ parts.start_good c.requires c.in_ok-enter.ensures.ok e)

pub returns-clause-ok : goal.returns-clause-ok
returns-clause-ok g c = then_on_ok _ _ _ c.enter-2.ensures.ok (λ f. joined (ways.entering kind.Start 2) (ways.entering kind.Done 2) _ _ _ c.in_ok-enter.ensures.ok f)
