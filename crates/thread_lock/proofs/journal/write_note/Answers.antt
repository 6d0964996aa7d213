use Rattle.std.proofs.Common.{◌≡◌, ◌++◌, ◌∷◌, [], ap, sym, ◌∙◌, subst}
use mathlib.Core.List.{IsPrefix}
use Rattle.thread_lock.proofs.Histories.{prefix_more}
use Rattle.thread_lock.proofs.journal.write_note.Goals as goal

pub returns-in-Ok-clause-seen : goal.returns-in-Ok-clause-seen
returns-in-Ok-clause-seen g c =
    let note = (c.actor-actor.result, c.args.number) ∷ [] in
    let longer : c.put.result.seen ≡ c.enter-held.result.value.notes ++ note = ap (λ p. p.seen) c.put.ensures ∙ (ap (λ j. j.notes) c.in-Ok.ensures.ok ∙ ap (λ j. j.notes ++ note) c.take-journal.ensures.value) in
    subst (IsPrefix c.args.pass.seen) (sym longer) (prefix_more c.args.pass.seen c.enter-held.result.value.notes note c.enter-held.ensures.seen)
