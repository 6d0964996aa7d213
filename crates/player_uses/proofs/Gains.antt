-- Pieces that move from what is left to what was put.
use Rattle.std.proofs.Common.{◌≡◌, List, ◌∷◌, ◌++◌, ℕ, ap, sym, ◌∙◌, append_assoc}
use Rattle.std.specs.List.{flat_map}

-- one more piece moves from what is left to what was put
pub piece_moves : {X : Type 0} (f : X → List ℕ) (done whole : List ℕ) (x : X) (rest after : List X) → rest ≡ x ∷ after → done ++ flat_map f rest ≡ whole → (done ++ f x) ++ flat_map f after ≡ whole
piece_moves f done whole x rest after is e = append_assoc done (f x) (flat_map f after) ∙ ap (λ xs. done ++ flat_map f xs) (sym is) ∙ e
