-- The main side and what was drawn stay.
use Rattle.std.proofs.Common.{◌≡◌, ℕ, ◌+◌, ◌-◌, ◌≤◌, subst, refl, arith}
use Rattle.model_states.specs.declared.kind.Kind.TheVariants as kind
use Rattle.proxy_single_thread.specs.Singles.{SingleModel, SingleEnters}
use Rattle.proxy_single_thread.proofs.Keeps.{by_worker}
use Rattle.proxy_single_thread.proofs.single.SingleThread.enter_start.Goals as goal

pub invariant_of-self : goal.invariant_of-self
invariant_of-self c =
    by_worker c.self.inside.core c.start-answer.new.core kind.Start (2 + (c.args.actor - 2)) c.start-answer.result c.start-answer.ensures.answer refl refl c.self.inside.main c.self.inside.workers c.start-answer.new.self c.self.inside.shown
    c.is_legal.ensures.legal c.self.invariant c.start-answer.ensures.stands

-- the actor of a worker, from its number
actor_of : (n : ℕ) → 2 ≤ n → 2 + (n - 2) ≡ n
actor_of n few = omega (arith, few)

pub returns-clause-answer : goal.returns-clause-answer
returns-clause-answer c =
    let by_core : SingleEnters c.self.inside.core kind.Start c.args.actor c.start-answer.new.core c.start-answer.result =
    subst (λ (a : ℕ). SingleEnters c.self.inside.core kind.Start a c.start-answer.new.core c.start-answer.result) (actor_of c.args.actor c.requires.0) c.start-answer.ensures.answer in
    subst (λ (z : SingleModel). SingleEnters z.run kind.Start c.args.actor c.start-answer.new.core c.start-answer.result) c.self.view_is by_core
