-- What stands is moved, and both ways enter the abort.
use Rattle.std.proofs.Common.{◌≡◌, ℕ, false, List, ◌∷◌, Some, refl, sym, ◌∙◌, subst, arith}
use Rattle.model_states.specs.declared.kind.Kind.TheVariants as kind
use Rattle.model_history.specs.declared.event.Event.TheVariants as event
use Rattle.model_history.specs.declared.history.Entry.{Entry}
use Rattle.model_history.specs.Frames.{pending}
use Rattle.model_history.specs.Scrolls.{clobbers}
use Rattle.model_history.specs.Legal.{Legal}
use Rattle.model_steps.specs.Events.{abort}
use Rattle.impl_scroll.specs.Standings.{StandingModel, StandsForPast}
use Rattle.impl_log.specs.Runs.{Run, past, now}
use Rattle.impl_core.specs.inner.Moving.{ComesMoving}
use Rattle.impl_core.proofs.MayCome.{comes_next}
use Rattle.impl_core.proofs.QuietAborts.{none_named}
use Rattle.impl_core.proofs.core_state.Core.abort.Goals as goal

pub aborted-requires : goal.aborted-requires
aborted-requires c =
    let r : Run = c.self.inside.log in
    let h : List Entry = past r in
    let legal = c.is_legal.ensures.legal in
    let stands = subst (λ (st : StandingModel). StandsForPast r.script h st) (sym c.standing.ensures) c.self.invariant.host.standing in
    let pages = c.pages-pages.ensures r.script h c.self.invariant.host in
    let k : ℕ = c.args.frame in
    let may_come : now r kind.Abort 1 ≡ Some (event.Abort k) = subst (λ (z : Run). now z kind.Abort 1 ≡ Some (event.Abort k)) (sym c.self.view_is) c.requires in
    let next : Legal r.script r.workers (abort 1 k ∷ h) = comes_next r.script r.workers h 1 (event.Abort k) legal may_come refl (omega arith) in
    record { script = r.script; workers = r.workers; past = h; actor = 1; frame = k; playable = c.is_legal.ensures.playable; legal = next; stands = stands; pages = pages }

pub abort_in_place-requires-clause-stands : goal.abort_in_place-requires-clause-stands
abort_in_place-requires-clause-stands c =
    let r : Run = c.self.inside.log in
    let h : List Entry = past r in
    let legal = c.is_legal.ensures.legal in
    let stands = subst (λ (st : StandingModel). StandsForPast r.script h st) (sym c.standing.ensures) c.self.invariant.host.standing in
    let pages = c.pages-pages.ensures r.script h c.self.invariant.host in
    let k : ℕ = c.args.frame in
    let may_come : now r kind.Abort 1 ≡ Some (event.Abort k) = subst (λ (z : Run). now z kind.Abort 1 ≡ Some (event.Abort k)) (sym c.self.view_is) c.requires in
    let next : Legal r.script r.workers (abort 1 k ∷ h) = comes_next r.script r.workers h 1 (event.Abort k) legal may_come refl (omega arith) in
    subst (λ (z : Run). StandsForPast z.script (abort 1 k ∷ past z) c.in_ok-standing.standing) c.self.view_is (c.in_ok-standing.ensures r.script r.workers h 1 k next stands pages)

pub abort_in_place-requires-clause-none_outright : goal.abort_in_place-requires-clause-none_outright
abort_in_place-requires-clause-none_outright c =
    let r : Run = c.self.inside.log in
    let h : List Entry = past r in
    let pages = c.pages-pages.ensures r.script h c.self.invariant.host in
    let none : (sc : ℕ) → clobbers r.script (pending h) sc ≡ false = λ sc. sym (pages.outright sc) ∙ none_named c.pages-pages.result.outright.now (sym c.is_empty-stays.ensures ∙ c.if-stays.true) sc in
    subst (λ (z : Run). (sc : ℕ) → clobbers z.script (pending (past z)) sc ≡ false) c.self.view_is none

pub enter_moving-requires : goal.enter_moving-requires
enter_moving-requires c =
    let r : Run = c.self.inside.log in
    let h : List Entry = past r in
    let legal = c.is_legal.ensures.legal in
    let stands = subst (λ (st : StandingModel). StandsForPast r.script h st) (sym c.standing.ensures) c.self.invariant.host.standing in
    let pages = c.pages-pages.ensures r.script h c.self.invariant.host in
    let k : ℕ = c.args.frame in
    let may_come : now r kind.Abort 1 ≡ Some (event.Abort k) = subst (λ (z : Run). now z kind.Abort 1 ≡ Some (event.Abort k)) (sym c.self.view_is) c.requires in
    let next : Legal r.script r.workers (abort 1 k ∷ h) = comes_next r.script r.workers h 1 (event.Abort k) legal may_come refl (omega arith) in
    subst (λ (z : Run). ComesMoving z 1 (event.Abort k) c.in_ok-standing.standing) c.self.view_is
    (record { moving = refl; is_now = may_come; actor_is = refl; stands = c.in_ok-standing.ensures r.script r.workers h 1 k next stands pages })
