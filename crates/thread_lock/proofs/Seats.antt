-- What a change of one seat leaves, and a function that is changed at one number.
use Rattle.std.proofs.Common.{◌≡◌, ◌≢◌, ℕ, zero, suc, ⊎_elim, true, Option, Some, None, List, [], ◌∷◌, set, refl, sym, ap, ◌∙◌, subst}
use mathlib.Core.Logic.{dite}
use mathlib.Core.Option.{some, some-injective, some-ne-none}
use native.Mathlib.Decide.{ℕ_discrete}
use lib.ListN.{get_elem?}
use Rattle.atomic_table.proofs.Lists.{at_set, set_else}
use Rattle.thread_lock.specs.declared.board.PassView.{PassView}
use Rattle.std.specs.Option.{IsSome}
use Rattle.thread_lock.specs.Turns.{Holds}

abbrev pick : {P : Type 0} → Dec P → ℕ → ℕ → ℕ
pick (yes _) a b = a
pick (no _) a b = b

-- f, but c at i
pub put : (ℕ → ℕ) → ℕ → ℕ → ℕ → ℕ
put f i c j = pick (ℕ_discrete j i) c (f j)

pub put_here : (f : ℕ → ℕ) (i c : ℕ) → put f i c i ≡ c
unfolding put
put_here f i c = go (ℕ_discrete i i)
  where
    go : (d : Dec (i ≡ i)) → pick d c (f i) ≡ c
    go (yes _) = refl
    go (no n) = absurd (n refl)

pub put_else : (f : ℕ → ℕ) (i c j : ℕ) → j ≢ i → put f i c j ≡ f j
unfolding put
put_else f i c j other = go (ℕ_discrete j i)
  where
    go : (d : Dec (j ≡ i)) → pick d c (f j) ≡ f j
    go (yes e) = absurd (other e)
    go (no _) = refl

-- what was c stays c
pub put_keeps : (f : ℕ → ℕ) (i c j : ℕ) → f j ≡ c → put f i c j ≡ c
unfolding put
put_keeps f i c j is = go (ℕ_discrete j i)
  where
    go : (d : Dec (j ≡ i)) → pick d c (f j) ≡ c
    go (yes e) = refl
    go (no _) = is

module _ {A : Type 0} where
  -- the element that was set where one was
  pub set_there : (l : List A) (i : ℕ) (a b : A) → get_elem? l i ≡ some a → get_elem? (set l i b) i ≡ some b
  set_there [] i a b e = absurd (some-ne-none a (sym e))
  set_there (x ∷ xs) zero a b e = refl
  set_there (x ∷ xs) (suc i) a b e = set_there xs i a b e

  -- what holds of the new element and of all others holds of each
  pub seats : (K : ℕ → A → Type 0) (l : List A) (me : ℕ) (w : A) → K me w → ((j : ℕ) (v : A) → j ≢ me → get_elem? l j ≡ some v → K j v)
      → (j : ℕ) (v : A) → get_elem? (set l me w) j ≡ some v → K j v
  seats K l me w mine others j v e = ⊎_elim (λ (t : (j ≡ me) × (w ≡ v)). subst (λ (x : ℕ × A). K x.0 x.1) (λ i. (sym t.0 i, t.1 i)) mine)
      (λ (t : (j ≢ me) × (get_elem? l j ≡ some v)). others j v t.0 t.1) (at_set l me j w v e)

module _ {M E : Type 0} where
  -- the holder is still there
  pub someone_stays : (views : List (PassView M E)) (holder id : ℕ) (v w : PassView M E) → get_elem? views id ≡ some v → (v.holds ≡ true → w.holds ≡ true) → Holds views holder → Holds (set views id w) holder
  someone_stays views holder id v w at same t = dite (ℕ_discrete holder id)
      (λ e. (
        w,
        ap (λ (j : ℕ). get_elem? (set views id w) j) e ∙ set_there views id v w at,
        same (subst (λ (u : PassView M E). u.holds ≡ true) (some-injective t.0 v (sym t.1 ∙ (ap (λ (j : ℕ). get_elem? views j) e ∙ at))) t.2),
      ))
      (λ other. (t.0, set_else views id holder w other ∙ t.1, t.2))

-- the value of an option that has one
pub some_of : {A : Type 0} (o : Option A) → IsSome o → (a : A) × (o ≡ Some a)
some_of None some_it = absurd (cc (some_it))
some_of (Some a) some_it = (a, refl)
