-- The target of a point is the topmost layer that covers it.
use Rattle.std.proofs.Common.{ℕ, ℤ, ◌≡◌, ◌≤◌, ◌==◌, inl, inr, Bool, true, false, cond, Some, None, Ok, List, [], ◌∷◌, ◌++◌, refl, ap, sym, ◌∙◌, subst, arith, eqb-true}
use Rattle.std.specs.List.{find, AllByRecursion}
use Rattle.std.proofs.lemmas.Bool.Decides.{nat_tests}
use Rattle.geom.specs.declared.rect.Point.{Point}
use Rattle.page_properties.specs.Trees.{Trees as Props}
use Rattle.page_layers.specs.Tests.{is_id}
use Rattle.page_layers.specs.Layers.{PageLayer}
use Rattle.page_layers.specs.Pages.{Page}
use Rattle.page_layers.specs.Sound.{IsLayer, IsPage}
use Rattle.page_layers.specs.Hits.{covers_point, last_covering, target, IsTopmost}
use Rattle.page_layers.proofs.TestFacts.{count_facts}

-- the ids of a page's layers are not 0
id_facts : (id : ℕ) → is_id id ≡ Ok tt → 1 ≤ id
unfolding is_id
id_facts id ok = (count_facts id 1 65535 ok).0

not_zero : (id : ℕ) → 1 ≤ id → id ≡ 0 → ⊥
not_zero id low is = absurd (omega (arith, low, is))

-- what holds of each layer holds of one between others
each-middle : {A : Type 0} (P : A → Type 0) (front : List A) (x : A) (back : List A) → AllByRecursion P (front ++ x ∷ back) → P x
each-middle P [] x back all = all.0
each-middle P (y ∷ front) x back all = each-middle P front x back all.1

topmost : (p : PageLayer → Bool) (props : Props) (used : List ℕ) (ls : List PageLayer) → AllByRecursion (IsLayer props used) ls → IsTopmost p ls (last_covering p ls)
topmost p props used [] all = inl (refl, refl)
topmost p props used (l ∷ ls) all = go (last_covering p ls == 0) refl (topmost p props used ls all.1)
  where
    none_here : (b : Bool) → p l ≡ b → find p ls ≡ None → IsTopmost p (l ∷ ls) (cond b l.id 0)
    none_here true e none = inr ([], l, ls, refl, refl, e, none)
    none_here false e none = inl (refl, ap (λ (b : Bool). cond b (Some l) (find p ls)) e ∙ none)

    go : (b : Bool) → (last_covering p ls == 0) ≡ b → IsTopmost p ls (last_covering p ls) → IsTopmost p (l ∷ ls) (cond b (cond (p l) l.id 0) (last_covering p ls))
    go true e (inl none) = none_here (p l) refl none.1
    go true e (inr found) =
        let here : IsLayer props used found.1 = each-middle (IsLayer props used) found.0 found.1 found.2 (subst (AllByRecursion (IsLayer props used)) (sym found.3) all.1) in
        absurd (not_zero found.1.id (id_facts found.1.id here.id) (found.4 ∙ eqb-true (last_covering p ls) 0 e))
    go false e (inl none) = let is : last_covering p ls ≡ 0 = none.0 in absurd (grind (arith, nat_tests, e, is))
    go false e (inr found) = inr (l ∷ found.0, found.1, found.2, ap (λ (ks : List PageLayer). l ∷ ks) found.3, found.4, found.5, found.6)

pub target_is_topmost : (p : Page) (offset : ℕ → Point) (x y : ℤ) → IsPage p → IsTopmost (covers_point p offset x y) p.layers (target p offset x y)
unfolding target
target_is_topmost p offset x y is = topmost (covers_point p offset x y) p.props p.used p.layers is.layers
