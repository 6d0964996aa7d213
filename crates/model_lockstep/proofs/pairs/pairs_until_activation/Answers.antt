use Rattle.std.proofs.Common.{Bool, not, List, ap, sym, ◌∙◌, subst}
use Rattle.model_states.specs.declared.kind.Kind.TheVariants as kind
use Rattle.model_history.specs.declared.history.Entry.{Entry}
use Rattle.model_history.specs.Scripts.{ScriptModel}
use Rattle.model_history.specs.Lockstep.{is_possible, Pair}
use Rattle.model_history.proofs.LockstepWords as words
use Rattle.model_lockstep.specs.Walks.{WalkState, CanFollow, Follows, IsOnWay, pairs_to_activation}
use Rattle.model_lockstep.proofs.Fronts as fronts
use Rattle.model_lockstep.proofs.Parts as parts
use Rattle.model_lockstep.proofs.Following.{has_turn, turned, left_in_turn, left_between, in_any_case}
use Rattle.model_lockstep.proofs.pairs.pairs_until_activation.Goals as goal

abbrev test : ScriptModel → List Entry → Bool
test s h = not (is_possible s kind.Activate 0 h)

pub pair-requires-clause-can : goal.pair-requires-clause-can
pair-requires-clause-can g c κs within = subst (CanFollow Pair) (sym c.can_activate.ensures.same) (has_turn test Pair _ _ (ap not (sym c.in_ok-can_activate.ensures.answer ∙ c.if-not-branch.true)) c.loop-core.invariant)

pub loop-core-smaller : goal.loop-core-smaller
loop-core-smaller g c = parts.fewer_tiles _ _ (subst (λ (r : WalkState). Follows Pair r (g.C.Compositor.run c.pair.new.core)) c.can_activate.ensures.same c.in_ok-pair.ensures.ok)

pub loop-core-preserved : goal.loop-core-preserved
loop-core-preserved g c = turned test Pair _ _ _ words.pair (ap not (sym c.in_ok-can_activate.ensures.answer ∙ c.if-not-branch.true)) c.loop-core.invariant (subst (λ (r : WalkState). Follows Pair r (g.C.Compositor.run c.pair.new.core)) c.can_activate.ensures.same c.in_ok-pair.ensures.ok)

pub returns-in_err-pair-clause-err : goal.returns-in_err-pair-clause-err
returns-in_err-pair-clause-err g c =
    in_any_case _ _ (left_in_turn test Pair _ _ _ words.pair fronts.pairs (ap not (sym c.in_ok-can_activate.ensures.answer ∙ c.if-not-branch.true)) c.loop-core.invariant (subst (λ (r : WalkState). IsOnWay Pair r (g.C.Compositor.run c.pair.new.core)) c.can_activate.ensures.same c.in_err-pair.ensures.err))

pub returns-in_err-can_activate-clause-err : goal.returns-in_err-can_activate-clause-err
returns-in_err-can_activate-clause-err g c = in_any_case _ _ (left_between pairs_to_activation pairs_to_activation _ _ _ fronts.pairs c.loop-core.invariant c.can_activate.ensures.same)
