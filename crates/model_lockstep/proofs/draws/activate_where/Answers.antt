use Rattle.std.proofs.Common.{refl, sym, ◌∙◌, subst}
use Rattle.model_states.specs.declared.kind.Kind.TheVariants as kind
use Rattle.model_history.specs.Lockstep.{is_possible, Stays}
use Rattle.model_lockstep.specs.Walks as ways
use Rattle.model_lockstep.specs.Walks.{WalkState}
use Rattle.model_lockstep.proofs.Parts as parts
use Rattle.model_lockstep.proofs.Following.{can_if, follows_if, on_if, refused, in_any_case, then_on_error, then_on_ok}
use Rattle.model_lockstep.proofs.draws.activate_where.Goals as goal

pub enter-requires : goal.enter-requires
enter-requires g c = record {
  actor = refl;
  can = subst (ways.CanFollow (ways.entering kind.Activate 0)) (sym c.can_activate.ensures.same) (can_if (λ s. is_possible s kind.Activate 0) (ways.entering kind.Activate 0) (λ s. Stays) _ (sym c.in_ok-can_activate.ensures.answer ∙ c.if-branch.true) c.requires);
}

pub returns-then-branch-clause-err : goal.returns-then-branch-clause-err
returns-then-branch-clause-err g c =
    then_on_error _ _ _ c.enter.ensures.err (λ e. on_if (λ s. is_possible s kind.Activate 0) (ways.entering kind.Activate 0) (λ s. Stays) _ _ (sym c.in_ok-can_activate.ensures.answer ∙ c.if-branch.true)
    (refused (ways.entering kind.Activate 0) _ _ (parts.own_grows kind.Activate 0) (can_if (λ s. is_possible s kind.Activate 0) (ways.entering kind.Activate 0) (λ s. Stays) _ (sym c.in_ok-can_activate.ensures.answer ∙ c.if-branch.true) c.requires) (e ∙ c.can_activate.ensures.same)))

pub returns-then-branch-clause-ok : goal.returns-then-branch-clause-ok
returns-then-branch-clause-ok g c =
    then_on_ok _ _ _ c.enter.ensures.ok (λ f. follows_if (λ s. is_possible s kind.Activate 0) (ways.entering kind.Activate 0) (λ s. Stays) _ _ (sym c.in_ok-can_activate.ensures.answer ∙ c.if-branch.true)
    (subst (λ (r : WalkState). ways.Follows (ways.entering kind.Activate 0) r (g.C.Compositor.run c.enter.new.core)) c.can_activate.ensures.same f))

pub returns-in_err-can_activate-clause-err : goal.returns-in_err-can_activate-clause-err
returns-in_err-can_activate-clause-err g c = in_any_case _ _ (refused ways.activation_now _ _ parts.now_grows c.requires c.can_activate.ensures.same)
