-- Lists that loops build, one element more at a time.
use Rattle.std.proofs.Common.{◌≡◌, ℕ, ◌+◌, ◌<◌, Option, List, [], ◌∷◌, ◌++◌, length, get_or, take, filter_map, sym, ◌∙◌, ap, append_assoc}
use Rattle.std.specs.List.{flat_map, cons_option}
use Rattle.std.proofs.lemmas.List.{take_more, flat_map_more}
use Rattle.std.proofs.lemmas.List.Elements.{filter_map-append}

pub option_more : {X Y : Type 0} (f : X → Option Y) (xs : List X) (i : ℕ) (d : X) (base old new : List Y) → i < length xs
    → old ≡ base ++ filter_map f (take i xs) → new ≡ old ++ cons_option (f (get_or xs i d)) [] → new ≡ base ++ filter_map f (take (i + 1) xs)
option_more {X} {Y} f xs i d base old new lt was made =
    made
    ∙ ap (λ (zs : List Y). zs ++ cons_option (f (get_or xs i d)) []) was
    ∙ append_assoc base (filter_map f (take i xs)) (cons_option (f (get_or xs i d)) [])
    ∙ ap (λ (zs : List Y). base ++ zs) (sym (ap (λ (zs : List X). filter_map f zs) (take_more xs i d lt) ∙ filter_map-append f (take i xs) (get_or xs i d ∷ [])))

pub flat_more : {X Y : Type 0} (f : X → List Y) (xs : List X) (i : ℕ) (d : X) (base old new : List Y) → i < length xs
    → old ≡ base ++ flat_map f (take i xs) → new ≡ old ++ f (get_or xs i d) → new ≡ base ++ flat_map f (take (i + 1) xs)
flat_more {X} {Y} f xs i d base old new lt was made =
    made
    ∙ ap (λ (zs : List Y). zs ++ f (get_or xs i d)) was
    ∙ flat_map_more f base (take i xs) (get_or xs i d)
    ∙ ap (λ (ys : List X). base ++ flat_map f ys) (sym (take_more xs i d lt))
