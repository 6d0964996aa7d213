-- The last entry of a run.
use Rattle.std.proofs.Common.{◌≡◌, ℕ, suc, ◌-◌, List, [], ◌∷◌, length, Some, slice_get, sym, ◌∙◌, ap, arith}
use Rattle.model_history.specs.declared.history.Entry.{Entry}
use Rattle.impl_core.specs.Replies.{is_end, is_played}

-- the last place of a longer list
one_further : (n : ℕ) → suc (suc n) - 1 ≡ suc (suc n - 1)
one_further n = omega arith

pub last_at : (es : List Entry) (e : Entry) → slice_get es (length es - 1) ≡ Some e → is_played es ≡ is_end e.event
last_at [] e i = absurd cc
last_at (x ∷ []) e i = let same : x ≡ e = cc in ap (λ (z : Entry). is_end z.event) same
last_at (x ∷ y ∷ ys) e i = last_at (y ∷ ys) e (sym (ap (slice_get (x ∷ y ∷ ys)) (one_further (length ys))) ∙ i)
