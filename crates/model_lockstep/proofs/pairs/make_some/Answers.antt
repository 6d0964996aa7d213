use Rattle.std.proofs.Common.{sym, ◌∙◌, subst}
use Rattle.model_history.specs.Lockstep.{has_first, Pair}
use Rattle.model_history.proofs.LockstepWords as words
use Rattle.model_lockstep.specs.Walks.{WalkState, CanFollow, Follows, IsOnWay, pairs_at_most}
use Rattle.model_lockstep.proofs.Parts as parts
use Rattle.model_lockstep.proofs.Following.{has_turn_left, one_turned, left_in_one, left_between, none_over, in_any_case}
use Rattle.model_lockstep.proofs.pairs.make_some.Goals as goal

pub pair-requires-clause-can : goal.pair-requires-clause-can
pair-requires-clause-can g c κs within = subst (CanFollow Pair) (sym c.has_first.ensures.same) (has_turn_left has_first Pair _ _ c.args.most c.loop-left.left c.loop-left-test.true (sym c.in_ok-has_first.ensures.answer ∙ c.if-branch.true) c.loop-left.invariant)

pub returns-in_err-pair-clause-err : goal.returns-in_err-pair-clause-err
returns-in_err-pair-clause-err g c =
    in_any_case _ _ (left_in_one has_first Pair _ _ c.args.most c.loop-left.left _ words.pair parts.most_grows c.loop-left-test.true (sym c.in_ok-has_first.ensures.answer ∙ c.if-branch.true) c.loop-left.invariant
    (subst (λ (r : WalkState). IsOnWay Pair r (g.C.Compositor.run c.pair.new.core)) c.has_first.ensures.same c.in_err-pair.ensures.err))

pub returns-in_err-has_first-clause-err : goal.returns-in_err-has_first-clause-err
returns-in_err-has_first-clause-err g c = in_any_case _ _ (left_between (pairs_at_most c.args.most) (pairs_at_most c.loop-left.left) _ _ _ (parts.most_grows c.loop-left.left) c.loop-left.invariant c.has_first.ensures.same)

pub loop-left-preserved : goal.loop-left-preserved
loop-left-preserved g c =
    one_turned has_first Pair _ _ c.args.most c.loop-left.left _ words.pair c.loop-left-test.true (sym c.in_ok-has_first.ensures.answer ∙ c.if-branch.true) c.loop-left.invariant
    (subst (λ (r : WalkState). Follows Pair r (g.C.Compositor.run c.pair.new.core)) c.has_first.ensures.same c.in_ok-pair.ensures.ok)

pub returns-else-branch-clause-ok : goal.returns-else-branch-clause-ok
returns-else-branch-clause-ok g c =
    subst (Follows (pairs_at_most c.args.most) (g.C.Compositor.run c.args.core.now)) (sym c.has_first.ensures.same)
    (none_over has_first Pair _ _ c.args.most c.loop-left.left c.loop-left-test.true (sym c.in_ok-has_first.ensures.answer ∙ c.if-branch.false) c.loop-left.invariant)
