use Rattle.std.proofs.Common.{refl}
use Rattle.model_states.specs.declared.kind.Kind.TheVariants as kind
use Rattle.model_lockstep.specs.Walks as ways
use Rattle.model_lockstep.proofs.Parts as parts
use Rattle.model_lockstep.proofs.Following.{rest, joined, last_refused, left_in_first, in_any_case, then_on_error, then_on_ok}
use Rattle.model_lockstep.proofs.play.make_and_settle.Goals as goal

pub returns-in_err-make_all-clause-err : goal.returns-in_err-make_all-clause-err
returns-in_err-make_all-clause-err g c = in_any_case _ _ (left_in_first ways.all_pairs (ways.entering kind.Settle 0) _ _ parts.all_good (parts.own_grows kind.Settle 0) c.requires.can c.in_err-make_all.ensures.err)

pub enter-requires : goal.enter-requires
enter-requires g c = record { actor = refl; can = rest ways.all_pairs (ways.entering kind.Settle 0) _ _ parts.all_good c.requires.can c.in_ok-make_all.ensures.ok }

pub returns-clause-err : goal.returns-clause-err
returns-clause-err g c = then_on_error _ _ _ c.enter.ensures.err (λ e. last_refused ways.all_pairs kind.Settle 0 _ _ _ parts.all_good c.requires.can c.in_ok-make_all.ensures.ok e)

pub returns-clause-ok : goal.returns-clause-ok
returns-clause-ok g c = then_on_ok _ _ _ c.enter.ensures.ok (λ f. joined ways.all_pairs (ways.entering kind.Settle 0) _ _ _ c.in_ok-make_all.ensures.ok f)
