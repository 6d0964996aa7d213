-- Looking for a layer that is listed as changed whole, from a place of the list on.
use Rattle.std.proofs.Common.{ℕ, zero, suc, ◌≡◌, ◌+◌, nat_eq, Bool, true, false, ◌&&◌, ◌||◌, Some, None, List, [], ◌∷◌, drop, refl, ap, sym, ◌∙◌, add-one}
use Rattle.std.specs.Prelude.{slice_get}
use Rattle.region.specs.declared.change.LayerChange.{LayerChange}
use Rattle.region.specs.Lists.{is_listed_whole}

-- whether the change is of the whole layer
abbrev pub is_whole : LayerChange → ℕ → Bool
is_whole c n = nat_eq c.layer n && c.whole

whole_of : (n : ℕ) (ds : List LayerChange) (b : Bool) → b ≡ true → b || is_listed_whole ds n ≡ true
whole_of n ds b h = ap (λ z. z || is_listed_whole ds n) h

pub found_here : (list : List LayerChange) (i n : ℕ) (d : LayerChange) → slice_get list i ≡ Some d → is_whole d n ≡ true → is_listed_whole (drop i list) n ≡ true
found_here [] i n d at h = absurd cc
found_here (e ∷ es) zero n d at h =
    let s : e ≡ d = cc in
    whole_of n es (is_whole e n) (ap (λ (c : LayerChange). is_whole c n) s ∙ h)
found_here (e ∷ es) (suc i) n d at h = found_here es i n d at h

not_next : (list : List LayerChange) (i n : ℕ) (d : LayerChange) → slice_get list i ≡ Some d → is_whole d n ≡ false → is_listed_whole (drop (suc i) list) n ≡ is_listed_whole (drop i list) n
not_next [] i n d at h = absurd cc
not_next (e ∷ es) zero n d at h =
    let s : e ≡ d = cc in
    ap (λ (b : Bool). b || is_listed_whole es n) (sym h ∙ ap (λ (c : LayerChange). is_whole c n) (sym s))
not_next (e ∷ es) (suc i) n d at h = not_next es i n d at h

pub not_here : (list : List LayerChange) (i n : ℕ) (d : LayerChange) → slice_get list i ≡ Some d → is_whole d n ≡ false → is_listed_whole (drop (i + 1) list) n ≡ is_listed_whole (drop i list) n
not_here list i n d at h = ap (λ (k : ℕ). is_listed_whole (drop k list) n) (add-one i) ∙ not_next list i n d at h

none_next : (list : List LayerChange) (i n : ℕ) → slice_get list i ≡ None → is_listed_whole (drop (suc i) list) n ≡ is_listed_whole (drop i list) n
none_next [] zero n at = refl
none_next [] (suc i) n at = refl
none_next (e ∷ es) zero n at = absurd cc
none_next (e ∷ es) (suc i) n at = none_next es i n at

pub none_here : (list : List LayerChange) (i n : ℕ) → slice_get list i ≡ None → is_listed_whole (drop (i + 1) list) n ≡ is_listed_whole (drop i list) n
none_here list i n at = ap (λ (k : ℕ). is_listed_whole (drop k list) n) (add-one i) ∙ none_next list i n at
