use Rattle.std.proofs.Common.{◌≡◌, ℕ, ◌+◌, ◌<◌, ◌≤◌, List, [], ◌∷◌, ◌++◌, length, reverse, ap, sym, ◌∙◌, subst, arith}
use Rattle.std.proofs.lemmas.List.{length-reverse}
use Rattle.model_history.specs.declared.history.Entry.{Entry}
use Rattle.model_history.specs.EventFields.{kind_of}
use Rattle.model_history.specs.Legal.{Next}
use Rattle.model_history.specs.Accepted.{IsPlayable}
use Rattle.model_history.proofs.DueFacts.{entry}
use Rattle.impl_log.specs.Runs.{Run, now}
use Rattle.impl_log.specs.Kept.{forgettable, milestones}
use Rattle.impl_log.specs.inner.Logs.{IsLogOf}
use Rattle.impl_log.specs.inner.Steps.{placed}
use Rattle.impl_log.proofs.LogSteps.{past_more, next_is, may_step, entered, still_log}
use Rattle.impl_log.proofs.log.Log.enter.Goals as goal

pub add-requires-clause-step : goal.add-requires-clause-step
add-requires-clause-step c =
    let s = c.self.inside.plan in
    let n = c.self.inside.workers in
    let h = reverse c.self.inside.history.entries in
    let a = c.args.actor in
    let e = c.args.event in
    let x : Next s n h (entry a e) =
    next_is s n h a e (ap (λ (r : Run). now r (kind_of e) a) c.self.view_is ∙ c.requires.is_now) c.requires.actor (subst (λ (r : Run). a < 2 + r.workers) (sym c.self.view_is) c.requires.within) in
    may_step s n h c.self.inside.progress c.self.inside.history.spare c.self.inside.places c.self.inside.history.first c.is_playable.ensures c.self.invariant.0 a e x

pub invariant_of-self : goal.invariant_of-self
invariant_of-self c =
    let es : List Entry = c.self.inside.history.entries in
    let few : c.reserve.new.self.first ≤ forgettable (reverse es) = subst (λ (k : ℕ). k ≤ forgettable (reverse es)) (sym c.reserve.ensures.first) c.self.invariant.0.first in (
      still_log c.self.inside.plan c.self.inside.workers c.self.inside.progress c.self.inside.places c.self.inside.history c.reserve.new.self c.self.invariant.0 c.reserve.ensures.entries few c.reserve.ensures.spare,
      c.self.invariant.1,
    )

pub invariant_of-self-2 : goal.invariant_of-self-2
invariant_of-self-2 c =
    let s = c.self.inside.plan in
    let n = c.self.inside.workers in
    let h = reverse c.self.inside.history.entries in
    let a = c.args.actor in
    let e = c.args.event in
    let x : Next s n h (entry a e) =
    next_is s n h a e (ap (λ (r : Run). now r (kind_of e) a) c.self.view_is ∙ c.requires.is_now) c.requires.actor (subst (λ (r : Run). a < 2 + r.workers) (sym c.self.view_is) c.requires.within) in
    let es : List Entry = c.self.inside.history.entries in
    let left = c.add.new.history.spare in
    let room : n + 1 ≤ left = omega (arith, c.in_ok-reserve.ensures.room, c.add.ensures.spare) in
    let long : length c.reserve.new.self.entries ≡ length h = ap (λ (xs : List Entry). length xs) c.in_ok-reserve.ensures.entries ∙ sym (length-reverse es) in
    let there : c.add.new.places ≡ placed (milestones e) (length h) c.self.inside.places = c.add.ensures.places ∙ ap (λ (k : ℕ). placed (milestones e) k c.self.inside.places) long in
    let log = subst (λ (g : List Entry). IsLogOf s n g c.add.new.progress left c.add.new.places c.add.new.history.first)
    (sym (past_more es c.add.new.history.entries (entry a e) (c.add.ensures.entries ∙ ap (λ (xs : List Entry). xs ++ entry a e ∷ []) c.in_ok-reserve.ensures.entries)))
    (entered s n h c.self.inside.progress c.self.inside.history.spare c.self.inside.places c.self.inside.history.first c.is_playable.ensures c.self.invariant.0 a e x
    c.add.new.progress left c.add.new.places c.add.new.history.first c.add.ensures.progress there (c.add.ensures.first ∙ c.in_ok-reserve.ensures.first) room) in
    (log, c.add.ensures.known s.inputs c.self.invariant.1)
