-- The change of a layer in a list of changes.
use Rattle.std.proofs.Common.{ℕ, zero, suc, ◌≡◌, ◌+◌, ◌<◌, ◌≤◌, ◌==◌, nat_eq, Bool, true, false, ◌&&◌, ◌||◌, if◌then◌else◌, Some, None, List, [], ◌∷◌, drop, refl, ap, sym, ◌∙◌, add-one, arith}
use Rattle.std.specs.Prelude.{slice_get}
use Rattle.std.proofs.lemmas.Bool.Decides.{nat_tests}
use Rattle.region.specs.declared.change.LayerChange.{LayerChange}
use Rattle.region.specs.Lists.{AreChangesAbove, IsRising, change_of, is_listed_whole}
use Rattle.impl_host.specs.inner.Steps.{is_whole}

-- ---- looking from a place on

pub found_here : (list : List LayerChange) (i layer : ℕ) (d : LayerChange) → slice_get list i ≡ Some d → (d.layer == layer) ≡ true → change_of (drop i list) layer ≡ Some d
found_here [] i layer d at h = absurd cc
found_here (e ∷ es) zero layer d at h =
    let s : e ≡ d = cc in
    ap (λ (z : LayerChange). change_of (z ∷ es) layer) s ∙ ap (λ (b : Bool). if b then Some d else change_of es layer) h
found_here (e ∷ es) (suc i) layer d at h = found_here es i layer d at h

not_next : (list : List LayerChange) (i layer : ℕ) (d : LayerChange) → slice_get list i ≡ Some d → (d.layer == layer) ≡ false → change_of (drop (suc i) list) layer ≡ change_of (drop i list) layer
not_next [] i layer d at h = absurd cc
not_next (e ∷ es) zero layer d at h =
    let s : e ≡ d = cc in
    ap (λ (b : Bool). if b then Some d else change_of es layer) (sym h) ∙ ap (λ (z : LayerChange). change_of (z ∷ es) layer) (sym s)
not_next (e ∷ es) (suc i) layer d at h = not_next es i layer d at h

pub not_here : (list : List LayerChange) (i layer : ℕ) (d : LayerChange) → slice_get list i ≡ Some d → (d.layer == layer) ≡ false → change_of (drop (i + 1) list) layer ≡ change_of (drop i list) layer
not_here list i layer d at h = ap (λ (n : ℕ). change_of (drop n list) layer) (add-one i) ∙ not_next list i layer d at h

none_next : (list : List LayerChange) (i layer : ℕ) → slice_get list i ≡ None → change_of (drop (suc i) list) layer ≡ change_of (drop i list) layer
none_next [] zero layer at = refl
none_next [] (suc i) layer at = refl
none_next (e ∷ es) zero layer at = absurd cc
none_next (e ∷ es) (suc i) layer at = none_next es i layer at

pub none_here : (list : List LayerChange) (i layer : ℕ) → slice_get list i ≡ None → change_of (drop (i + 1) list) layer ≡ change_of (drop i list) layer
none_here list i layer at = ap (λ (n : ℕ). change_of (drop n list) layer) (add-one i) ∙ none_next list i layer at

-- ---- listed whole

above_unlisted : (n m : ℕ) (ds : List LayerChange) → n ≤ m → AreChangesAbove m ds → is_listed_whole ds n ≡ false
above_unlisted n m [] le all = refl
above_unlisted n m (d ∷ ds) le all =
    let lt : m < d.layer = all.0 in
    let out : nat_eq d.layer n ≡ false = grind (arith, nat_tests, le, lt) in
    ap (λ b. (b && d.whole) || is_listed_whole ds n) out ∙ above_unlisted n m ds le all.1

or_false : (b : Bool) → b || false ≡ b
or_false true = refl
or_false false = refl

-- a layer is listed whole where its change is whole, as it is listed once
pub listed_whole : (n : ℕ) (ds : List LayerChange) → IsRising ds → is_listed_whole ds n ≡ is_whole (change_of ds n)
listed_whole n [] up = refl
listed_whole n (d ∷ ds) up = go (nat_eq d.layer n) refl (listed_whole n ds up.1)
  where
    go : (b : Bool) → nat_eq d.layer n ≡ b → is_listed_whole ds n ≡ is_whole (change_of ds n) → (b && d.whole) || is_listed_whole ds n ≡ is_whole (if b then Some d else change_of ds n)
    go true e rest = ap (λ b. d.whole || b) (above_unlisted n d.layer ds (at_most d.layer n e) up.0) ∙ or_false d.whole
      where
        at_most : (a b : ℕ) → nat_eq a b ≡ true → b ≤ a
        at_most a b h = grind (arith, nat_tests, h)
    go false e rest = rest
