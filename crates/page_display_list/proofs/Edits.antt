-- What holds of each element of a list, after an insertion.
use Rattle.std.specs.Prelude.{ℕ, List, [], ◌∷◌, All, insert, take, drop, zero, suc}
use Rattle.std.proofs.Common.{arith}
use Rattle.std.proofs.lemmas.List.Elements.{All-append, All-take, All-drop}

pub All-one : {X : Type 0} (P : X → Type 0) (x : X) → P x → All P (x ∷ [])
All-one P x h zero d lt = h
All-one P x h (suc k) d lt = absurd (omega arith)

pub All-insert : {X : Type 0} (P : X → Type 0) (xs : List X) (i : ℕ) (x : X) → All P xs → P x → All P (insert xs i x)
All-insert P xs i x all here =
    All-append P (take i xs) (x ∷ drop i xs) (All-take P i xs all)
    (All-append P (x ∷ []) (drop i xs) (All-one P x here) (All-drop P i xs all))
