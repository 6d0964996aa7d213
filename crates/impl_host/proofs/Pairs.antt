-- Layers and tilings at the same places, with one tiling more or fewer.
use Rattle.std.proofs.Common.{ℕ, zero, suc, ◌≡◌, ◌⊎◌, inl, inr, Some, List, [], ◌∷◌, ◌++◌, length, refl, ap, sym, ◌∙◌, subst}
use Rattle.std.specs.Prelude.{slice_get}
use Rattle.tile_tiling.specs.Tiles.{Tiled}
use Rattle.page_layers.specs.Layers.{PageLayer}
use Rattle.impl_host.specs.Trees.{Paired}

-- an element of a prefix stands at the same place of the whole
pub at_front : {X : Type 0} (xs more : List X) (i : ℕ) (x : X) → slice_get xs i ≡ Some x → slice_get (xs ++ more) i ≡ Some x
at_front [] more i x e = absurd (cc)
at_front (y ∷ xs) more zero x e = e
at_front (y ∷ xs) more (suc i) x e = at_front xs more i x e

pub at_end : {X : Type 0} (xs : List X) (x : X) → slice_get (xs ++ x ∷ []) (length xs) ≡ Some x
at_end [] x = refl
at_end (y ∷ xs) x = at_end xs x

-- an element of a list with one more is one of the list, or that one
at_either : {X : Type 0} (xs : List X) (x : X) (i : ℕ) (y : X) → slice_get (xs ++ x ∷ []) i ≡ Some y → (slice_get xs i ≡ Some y) ⊎ ((i ≡ length xs) × (x ≡ y))
at_either [] x zero y e = let same : x ≡ y = cc in inr (refl, same)
at_either [] x (suc i) y e = absurd (cc)
at_either (z ∷ xs) x zero y e = inl e
at_either (z ∷ xs) x (suc i) y e = elim (at_either xs x i y e) [ inl a ↦ inl a | inr a ↦ inr (ap suc a.0, a.1) ]

pub some_same : {X : Type 0} (x y : X) → Some x ≡ Some y → x ≡ y
some_same x y e = cc

module _ (P : PageLayer → Tiled → Type 0) (ls : List PageLayer) (ts : List Tiled) where
  pub paired_front : (more : List Tiled) → Paired P ls (ts ++ more) → Paired P ls ts
  paired_front more h i l t el et = h i l t el (at_front ts more i t et)

  pub paired_last : (t : Tiled) (l : PageLayer) → Paired P ls (ts ++ t ∷ []) → slice_get ls (length ts) ≡ Some l → P l t
  paired_last t l h e = h (length ts) l t e (at_end ts t)

  pub paired_more : (t : Tiled) (l : PageLayer) → Paired P ls ts → slice_get ls (length ts) ≡ Some l → P l t → Paired P ls (ts ++ t ∷ [])
  paired_more t l h e p i m u em eu = elim (at_either ts t i u eu) [ inl a ↦ h i m u em a | inr a ↦ last a.0 a.1 ]
    where
      last : i ≡ length ts → t ≡ u → P m u
      last is same =
          let here : l ≡ m = some_same l m (sym e ∙ (ap (slice_get ls) (sym is) ∙ em)) in
          subst (λ (z : Tiled). P m z) same (subst (λ (k : PageLayer). P k t) here p)
