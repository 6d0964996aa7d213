-- A list that is made of another, one item after the other.
use Rattle.std.proofs.Common.{◌≡◌, ℕ, ◌+◌, ◌<◌, List, [], ◌∷◌, ◌++◌, length, get_or, take, map, sym, ◌∙◌, ap}
use Rattle.std.proofs.lemmas.List.{take_more, map-append}

-- an item more, which shows what the next item of the other list shows
pub mapped_more : {X Y Z : Type 0} (f : X → Z) (g : Y → Z) (old new : List X) (x : X) (from : List Y) (i : ℕ) (y : Y)
    → new ≡ old ++ x ∷ [] → i < length from → y ≡ get_or from i y → f x ≡ g y → map f old ≡ map g (take i from) → map f new ≡ map g (take (i + 1) from)
mapped_more f g old new x from i y pushed lt is same before =
    ap (map f) pushed ∙ map-append f old (x ∷ [])
    ∙ ap (λ zs. zs ++ f x ∷ []) before
    ∙ ap (λ z. map g (take i from) ++ z ∷ []) same
    ∙ sym (ap (map g) (take_more from i y lt ∙ ap (λ z. take i from ++ z ∷ []) (sym is)) ∙ map-append g (take i from) (y ∷ []))
