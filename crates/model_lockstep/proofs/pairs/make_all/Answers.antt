use Rattle.std.proofs.Common.{Bool, List, sym, ◌∙◌, subst}
use Rattle.model_history.specs.declared.history.Entry.{Entry}
use Rattle.model_history.specs.Scripts.{ScriptModel}
use Rattle.model_history.specs.Lockstep.{has_first, Pair}
use Rattle.model_history.proofs.LockstepWords as words
use Rattle.model_lockstep.specs.Walks.{WalkState, CanFollow, Follows, IsOnWay, all_pairs}
use Rattle.model_lockstep.proofs.Parts as parts
use Rattle.model_lockstep.proofs.Following.{has_turn, turned, left_in_turn, left_between, in_any_case}
use Rattle.model_lockstep.proofs.pairs.make_all.Goals as goal

abbrev test : ScriptModel → List Entry → Bool
test s h = has_first s h

pub pair-requires-clause-can : goal.pair-requires-clause-can
pair-requires-clause-can g c κs within = subst (CanFollow Pair) (sym c.has_first.ensures.same) (has_turn test Pair _ _ (sym c.in_ok-has_first.ensures.answer ∙ c.if-branch.true) c.loop-core.invariant)

pub loop-core-smaller : goal.loop-core-smaller
loop-core-smaller g c = parts.fewer_tiles _ _ (subst (λ (r : WalkState). Follows Pair r (g.C.Compositor.run c.pair.new.core)) c.has_first.ensures.same c.in_ok-pair.ensures.ok)

pub loop-core-preserved : goal.loop-core-preserved
loop-core-preserved g c = turned test Pair _ _ _ words.pair (sym c.in_ok-has_first.ensures.answer ∙ c.if-branch.true) c.loop-core.invariant (subst (λ (r : WalkState). Follows Pair r (g.C.Compositor.run c.pair.new.core)) c.has_first.ensures.same c.in_ok-pair.ensures.ok)

pub returns-in_err-pair-clause-err : goal.returns-in_err-pair-clause-err
returns-in_err-pair-clause-err g c =
    in_any_case _ _ (left_in_turn test Pair _ _ _ words.pair parts.all_grows (sym c.in_ok-has_first.ensures.answer ∙ c.if-branch.true) c.loop-core.invariant (subst (λ (r : WalkState). IsOnWay Pair r (g.C.Compositor.run c.pair.new.core)) c.has_first.ensures.same c.in_err-pair.ensures.err))

pub returns-in_err-has_first-clause-err : goal.returns-in_err-has_first-clause-err
returns-in_err-has_first-clause-err g c = in_any_case _ _ (left_between all_pairs all_pairs _ _ _ parts.all_grows c.loop-core.invariant c.has_first.ensures.same)
