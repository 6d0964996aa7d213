use Rattle.std.proofs.Common.{refl, sym, ◌∙◌}
use Rattle.model_states.specs.declared.kind.Kind.TheVariants as kind
use Rattle.model_history.specs.Lockstep.{is_possible}
use Rattle.model_lockstep.specs.Walks as ways
use Rattle.model_lockstep.proofs.Parts as parts
use Rattle.model_lockstep.proofs.Following.{can_if, can_else, follows_if, follows_else, on_if, on_else, refused, then_on_error, then_on_ok}
use Rattle.model_lockstep.proofs.frames.answer_frame.Goals as goal

pub commit-requires : goal.commit-requires
commit-requires g c =
    let (k, n) = c.requires.sent in
    can_else (λ s. is_possible s kind.Abort 1) (ways.entering kind.Abort 1) ways.commit_made _ (parts.changed_goes_on (g.C.Compositor.run c.args.core.now) k n (sym (c.requires.changed k n) ∙ c.if-changed.true)) c.requires.can

pub returns-then-changed-clause-err : goal.returns-then-changed-clause-err
returns-then-changed-clause-err g c =
    let (k, n) = c.requires.sent in
    then_on_error _ _ _ c.commit.ensures.err (λ w. on_else (λ s. is_possible s kind.Abort 1) (ways.entering kind.Abort 1) ways.commit_made _ _ (parts.changed_goes_on (g.C.Compositor.run c.args.core.now) k n (sym (c.requires.changed k n) ∙ c.if-changed.true)) w)

pub returns-then-changed-clause-ok : goal.returns-then-changed-clause-ok
returns-then-changed-clause-ok g c =
    let (k, n) = c.requires.sent in
    then_on_ok _ _ _ c.commit.ensures.ok (λ f. follows_else (λ s. is_possible s kind.Abort 1) (ways.entering kind.Abort 1) ways.commit_made _ _ (parts.changed_goes_on (g.C.Compositor.run c.args.core.now) k n (sym (c.requires.changed k n) ∙ c.if-changed.true)) f)

pub enter-requires : goal.enter-requires
enter-requires g c =
    let (k, n) = c.requires.sent in
    record { actor = refl; can = can_if (λ s. is_possible s kind.Abort 1) (ways.entering kind.Abort 1) ways.commit_made _ (parts.unchanged_aborts (g.C.Compositor.run c.args.core.now) k c.requires.can n (sym (c.requires.changed k n) ∙ c.if-changed.false)) c.requires.can }

pub returns-else-changed-clause-err : goal.returns-else-changed-clause-err
returns-else-changed-clause-err g c =
    let (k, n) = c.requires.sent in
    let t = parts.unchanged_aborts (g.C.Compositor.run c.args.core.now) k c.requires.can n (sym (c.requires.changed k n) ∙ c.if-changed.false) in
    then_on_error _ _ _ c.enter.ensures.err
    (λ e. on_if (λ s. is_possible s kind.Abort 1) (ways.entering kind.Abort 1) ways.commit_made _ _ t
    (refused (ways.entering kind.Abort 1) _ _ (parts.own_grows kind.Abort 1) (can_if (λ s. is_possible s kind.Abort 1) (ways.entering kind.Abort 1) ways.commit_made _ t c.requires.can) e))

pub returns-else-changed-clause-ok : goal.returns-else-changed-clause-ok
returns-else-changed-clause-ok g c =
    let (k, n) = c.requires.sent in
    then_on_ok _ _ _ c.enter.ensures.ok (λ f. follows_if (λ s. is_possible s kind.Abort 1) (ways.entering kind.Abort 1) ways.commit_made _ _ (parts.unchanged_aborts (g.C.Compositor.run c.args.core.now) k c.requires.can n (sym (c.requires.changed k n) ∙ c.if-changed.false)) f)
