-- A lock with two passes: nobody else has an entry.
use Rattle.std.proofs.Common.{◌≡◌, ◌≢◌, ℕ, zero, suc, List, [], ◌∷◌, refl, sym, arith}
use Rattle.std.specs.List.{Contains}
use Rattle.thread_lock.specs.Lists.{entries_by}
use Rattle.thread_lock.specs.PassModels.{PassModel, HasAllActors}

empty_of : {A : Type 0} (xs : List A) → (xs ≢ [] → ⊥) → xs ≡ []
empty_of [] not_some = refl
empty_of (x ∷ xs) not_some = absurd (not_some (λ e. absurd (cc (e))))

one_of_two : (k a b : ℕ) → Contains (a ∷ b ∷ []) k → k ≢ a → k ≢ b → ⊥
one_of_two k a b (zero, low, e) not_a not_b = not_a (sym e)
one_of_two k a b (suc zero, low, e) not_a not_b = not_b (sym e)
one_of_two k a b (suc (suc i), low, e) not_a not_b = absurd (omega arith)

pub nobody_else : {M E : Type 0} (history : List (ℕ × E)) (one two : PassModel M E) → HasAllActors history (one ∷ two ∷ []) → (k : ℕ) → k ≢ one.actor → k ≢ two.actor → entries_by k history ≡ []
nobody_else history one two named k not_one not_two = empty_of (entries_by k history) (λ some_entry. one_of_two k one.actor two.actor (named k some_entry) not_one not_two)
