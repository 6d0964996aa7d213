-- The quads that the layers of a page have.
use Rattle.std.proofs.Common.{ℕ, ℤ, ◌≡◌, ◌+◌, ◌<◌, List, [], ◌∷◌, ◌++◌, length, map, take, get_or, All, ap, sym, ◌∙◌, subst, refl}
use Rattle.std.proofs.lemmas.List.{map_more}
use Rattle.std.proofs.lemmas.List.Elements.{All-nil, All-cons, All-head, All-tail}
use Rattle.geom.specs.declared.rect.Rect.{Rect}
use Rattle.pixel.specs.Colours.{Parts, blend, clear}
use Rattle.viz_scene.specs.Views.{QuadView}
use Rattle.viz_scene.specs.Pixels.{quads_over}
use Rattle.viz_scene.specs.Sound.{QuadFits}
use Rattle.viz_quads.specs.declared.parts.LayerParts.{LayerParts}
use Rattle.viz_quads.specs.inner.Joins.{ActAs}
use Rattle.viz_quads.specs.inner.Passes.{own_quads, own_colour, ActAsOne, IsLayer, HaveQuads}

-- one layer more
have_push : (qss : List (List QuadView)) (ls : List LayerParts) (qs : List QuadView) (l : LayerParts) → HaveQuads qss ls → ActAs (own_quads l) qs → HaveQuads (qss ++ qs ∷ []) (ls ++ l ∷ [])
have_push [] [] qs l h a = (a, tt)
have_push [] (k ∷ ks) qs l h a = absurd h
have_push (rs ∷ more) [] qs l h a = absurd h
have_push (rs ∷ more) (k ∷ ks) qs l h a = (h.0, have_push more ks qs l h.1 a)

pub have_more : {A : Type 0} (g : A → List QuadView) (ls more : List LayerParts) (l : LayerParts) (xs : List A) (i : ℕ) (x : A) → more ≡ ls ++ l ∷ [] → i < length xs → x ≡ get_or xs i x → HaveQuads (map g (take i xs)) ls → ActAs (own_quads l) (g x)
    → HaveQuads (map g (take (i + 1) xs)) more
have_more g ls more l xs i x made lt is have acts =
    subst (λ (ks : List LayerParts). HaveQuads (map g (take (i + 1) xs)) ks) (sym made)
    (subst (λ (qss : List (List QuadView)). HaveQuads qss (ls ++ l ∷ [])) (ap (λ (y : _). map g (take i xs) ++ g y ∷ []) is ∙ sym (map_more g xs i x lt))
    (have_push (map g (take i xs)) ls (g x) l have acts))

-- ---- quads that act as one

abbrev pub IsOne : ℕ → ℕ → Rect → List QuadView → Type 0
IsOne w h view qs = ActAsOne view qs × All (QuadFits w h 0) qs

-- what acts as quads that act as one acts as one too
layer_is : (w h : ℕ) (view : Rect) (qs : List QuadView) (l : LayerParts) → IsOne w h view qs → ActAs (own_quads l) qs → IsLayer w h view l
layer_is w h view qs l one a = record {
  acts = λ passes x y below seen.
      a.shows w h 0 one.1 passes x y below
      ∙ one.0 passes x y below seen
      ∙ ap (λ (c : Parts). blend below c) (sym (a.shows w h 0 one.1 [] x y clear));
  fit = a.fit w h 0 one.1;
}

module _ {A : Type 0} (w h : ℕ) (view : Rect) (f : A → List QuadView) where
  pub layers_are : (xs : List A) (ls : List LayerParts) → All (λ x. IsOne w h view (f x)) xs → HaveQuads (map f xs) ls → All (IsLayer w h view) ls
  layers_are [] [] one have = All-nil (IsLayer w h view)
  layers_are [] (l ∷ ls) one have = absurd have
  layers_are (x ∷ xs) [] one have = absurd have
  layers_are (x ∷ xs) (l ∷ ls) one have =
      All-cons (IsLayer w h view) l ls (layer_is w h view (f x) l (All-head (λ x. IsOne w h view (f x)) x xs one) have.0)
      (layers_are xs ls (All-tail (λ x. IsOne w h view (f x)) x xs one) have.1)

  pub colours_are : (x y : ℤ) (xs : List A) (ls : List LayerParts) → All (λ x. IsOne w h view (f x)) xs → HaveQuads (map f xs) ls → map (own_colour x y) ls ≡ map (λ k. quads_over [] x y clear (f k)) xs
  colours_are x y [] [] one have = refl
  colours_are x y [] (l ∷ ls) one have = absurd have
  colours_are x y (k ∷ ks) [] one have = absurd have
  colours_are x y (k ∷ ks) (l ∷ ls) one have =
      ap (λ (c : Parts). c ∷ map (own_colour x y) ls) (have.0.shows w h 0 (All-head (λ x. IsOne w h view (f x)) k ks one).1 [] x y clear)
      ∙ ap (λ (cs : List Parts). quads_over [] x y clear (f k) ∷ cs) (colours_are x y ks ls (All-tail (λ x. IsOne w h view (f x)) k ks one) have.1)
