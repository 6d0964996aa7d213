-- The run is the same once there is a queue.
use Rattle.std.proofs.Common.{◌<◌, ◌+◌, sym, ◌∙◌, ap, subst}
use Rattle.model_states.specs.declared.kind.Kind.{Kind}
use Rattle.page_layers.proofs.KeptPages.{weaken}
use Rattle.impl_log.specs.Runs.{Run, now}
use Rattle.recording_judge.specs.Judging.{JudgesEntry}
use Rattle.recording_judge.specs.inner.States.{HasKind}
use Rattle.recording_judge.proofs.StateFacts.{has_kind}
use Rattle.recording_judge.proofs.state.State.enter_own.Goals as goal

pub coming-requires-clause-has : goal.coming-requires-clause-has
coming-requires-clause-has c =
    let e = c.args.entry.now.event in
    let a = c.args.entry.now.actor in
    subst (λ (z : Run). HasKind z.workers c.kind_of-kind.result a) (sym c.in_ok-prepare.ensures.log)
    (subst (λ (k : Kind). HasKind c.args.self.now.log.workers k a) (sym c.kind_of-kind.ensures) (has_kind c.args.self.now.log.workers a e c.requires.actor c.requires.within))

pub enter_coming-requires-clause-due : goal.enter_coming-requires-clause-due
enter_coming-requires-clause-due c = c.in_ok-coming.ensures ∙ ap (λ (k : Kind). now c.prepare.new.self.log k c.args.entry.now.actor) c.kind_of-kind.ensures

pub enter_coming-requires-clause-within : goal.enter_coming-requires-clause-within
enter_coming-requires-clause-within c = subst (λ (z : Run). c.args.entry.now.actor < 2 + z.workers) (sym c.in_ok-prepare.ensures.log) c.requires.within

pub returns-clause-enters : goal.returns-clause-enters
returns-clause-enters c =
    weaken c.enter_coming.result (λ yes enters. subst (λ (z : Run). JudgesEntry z c.args.entry.now c.enter_coming.new.self.log yes) c.in_ok-prepare.ensures.log enters) c.enter_coming.ensures.enters
