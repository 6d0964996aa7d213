use Rattle.std.proofs.Common.{rules, arith, ◌≡◌, ◌∷◌, [], ◌∙◌, subst}
use Rattle.std.proofs.lemmas.Grind.{common_steps}
use Rattle.thread_lock.specs.PassModels.{HasAllActors}
use Rattle.thread_lock.proofs.Pairs.{nobody_else}
use Rattle.thread_lock.proofs.journal.write_both.Goals as goal

pub returns-clause-nothing_else : goal.returns-clause-nothing_else
returns-clause-nothing_else g c =
    let one = c.join-one.result.0.0 in
    let two = c.join-one.result.1.0 in
    let items : c.push-2.new.self.items ≡ one ∷ two ∷ [] = first_of (search rules, grind (arith, common_steps)) in
    let same_one : one.actor ≡ c.args.one.actor = first_of (search rules, grind (arith, common_steps)) in
    let same_two : two.actor ≡ c.args.two.actor = first_of (search rules, grind (arith, common_steps)) in
    λ actor not_one not_two. nobody_else c.in-Ok.journal.notes one two (subst (HasAllActors c.in-Ok.journal.notes) items c.in-Ok.ensures.named) actor (λ e. not_one (e ∙ same_one)) (λ e. not_two (e ∙ same_two))
