-- Histories that grow, and what one actor has of them.
use Rattle.std.proofs.Common.{◌≡◌, ◌≢◌, ℕ, Bool, cond, List, [], ◌∷◌, ◌++◌, refl, ap, sym, ◌∙◌, append_assoc, eq-eqb, ne_eqb}
use Rattle.std.proofs.lemmas.List.{append-nil}
use Rattle.std.proofs.lemmas.List.Elements.{filter-append}
use mathlib.Core.List.{IsPrefix}
use Rattle.thread_lock.specs.Lists.{entries_by}

module _ {E : Type 0} where
  -- an entry of the actor comes after its own
  pub own_here : (n : ℕ) (e : E) (log : List (ℕ × E)) → entries_by n (log ++ (n, e) ∷ []) ≡ entries_by n log ++ (n, e) ∷ []
  own_here n e log = filter-append _ log ((n, e) ∷ []) ∙ ap (λ (b : Bool). entries_by n log ++ cond b ((n, e) ∷ []) []) (eq-eqb n n refl)

  -- an entry of another leaves the actor's own
  pub own_else : (k n : ℕ) (e : E) (log : List (ℕ × E)) → n ≢ k → entries_by k (log ++ (n, e) ∷ []) ≡ entries_by k log
  own_else k n e log other = filter-append _ log ((n, e) ∷ []) ∙ (ap (λ (b : Bool). entries_by k log ++ cond b ((n, e) ∷ []) []) (ne_eqb n k other) ∙ append-nil (entries_by k log))

module _ {A : Type 0} where
  -- where a history began, the longer history began
  pub prefix_more : (xs ys zs : List A) → IsPrefix xs ys → IsPrefix xs (ys ++ zs)
  prefix_more xs ys zs p = (p.0 ++ zs, sym (append_assoc xs p.0 zs) ∙ ap (λ (w : List A). w ++ zs) p.1)

  -- a history begins with all of itself
  pub prefix_same : (xs ys : List A) → xs ≡ ys → IsPrefix xs ys
  prefix_same xs ys e = ([], append-nil xs ∙ e)
