-- What entries add to a recording, one list after another.
use Rattle.std.proofs.Common.{◌≡◌, ℕ, List, [], ◌∷◌, ◌++◌, refl, ap, sym, ◌∙◌, append_assoc}
use Rattle.std.specs.Prelude.{reverse}
use mathlib.Core.List.{reverse_aux, reverse_aux-eq}
use Rattle.model_history.specs.declared.history.Entry.{Entry}
use Rattle.model_history.specs.Scripts.{ScriptModel}
use Rattle.model_history.specs.Recordings.{piece, pieces}

pieces_onto : (s : ScriptModel) (h a b : List Entry) → pieces s h (a ++ b) ≡ pieces s h a ++ pieces s (reverse_aux a h) b
pieces_onto s h [] b = refl
pieces_onto s h (e ∷ a) b =
    ap (λ (w : List ℕ). piece s h e.event ++ w) (pieces_onto s (e ∷ h) a b) ∙ sym (append_assoc (piece s h e.event) (pieces s (e ∷ h) a) (pieces s (reverse_aux a (e ∷ h)) b))

-- what two lists of entries add
pub pieces_both : (s : ScriptModel) (h a b : List Entry) → pieces s h (a ++ b) ≡ pieces s h a ++ pieces s (reverse a ++ h) b
pieces_both s h a b = pieces_onto s h a b ∙ ap (λ (g : List Entry). pieces s h a ++ pieces s g b) (reverse_aux-eq a h)
