-- Where a layer stands that is found by its id.
use Rattle.std.proofs.Common.{ℕ, zero, suc, ◌≡◌, ◌==◌, Bool, true, false, cond, Option, Some, None, List, [], ◌∷◌, length, ◌<◌, map, get_or, refl, ap, sym, ◌∙◌, eqb-true, arith}
use Rattle.std.specs.Prelude.{slice_get, is_some, option_map}
use Rattle.std.specs.List.{find, position}
use Rattle.std.proofs.lemmas.Option.{slice_get-map, slice_get-get_or, slice_get_read}
use Rattle.std.proofs.lemmas.Bool.Decides.{nat_tests}
use Rattle.page_layers.specs.declared.layer.Layer.{Layer}
use Rattle.page_layers.specs.Layers.{PageLayer, parts_of, has_id}
use Rattle.page_layers.specs.inner.FoundPlaces.{StandsAt as First}
use Rattle.page_layers.proofs.LayerPlaces.{place_is, found_is}
use Rattle.page_layers.specs.Refusals.{has_layer}
use Rattle.page_layers.specs.Sound.{AreDistinctLayers}
use Rattle.impl_host.specs.inner.Steps.{StandsAt}
use Rattle.impl_host.proofs.Pairs.{some_same}

pub not_both : (b : Bool) → b ≡ true → b ≡ false → ⊥
not_both b t f = cc

same_id : (m n : ℕ) → m ≡ n → (m == n) ≡ true
same_id m n e = grind (arith, nat_tests)

-- a layer that is found stands at some place
pub found_stands : (id : ℕ) (ls : List PageLayer) (l : PageLayer) → find (has_id id) ls ≡ Some l → (i : ℕ) × (slice_get ls i ≡ Some l) × (l.id ≡ id)
found_stands id [] l e = absurd (cc)
found_stands id (k ∷ ls) l e = go (k.id == id) refl e (found_stands id ls l)
  where
    go : (b : Bool) → (k.id == id) ≡ b → cond b (Some k) (find (has_id id) ls) ≡ Some l → (find (has_id id) ls ≡ Some l → (i : ℕ) × (slice_get ls i ≡ Some l) × (l.id ≡ id))
        → (i : ℕ) × (slice_get (k ∷ ls) i ≡ Some l) × (l.id ≡ id)
    go true is f rest = (zero, f, ap (λ (m : PageLayer). m.id) (sym (some_same k l f)) ∙ eqb-true k.id id is)
    go false is f rest = let r = rest f in (suc r.0, r.1, r.2)

-- a layer that stands in the list is the one that is found, as no two have one id
pub stands_found : (ls : List PageLayer) → AreDistinctLayers ls → (i : ℕ) (l : PageLayer) → slice_get ls i ≡ Some l → find (has_id l.id) ls ≡ Some l
stands_found [] d i l e = absurd (cc)
stands_found (k ∷ ls) d zero l e =
    let here : k ≡ l = some_same k l e in
    ap (λ (b : Bool). cond b (Some k) (find (has_id l.id) ls)) (same_id k.id l.id (ap (λ (m : PageLayer). m.id) here)) ∙ e
stands_found (k ∷ ls) d (suc i) l e = go (k.id == l.id) refl (stands_found ls d.1 i l e)
  where
    go : (b : Bool) → (k.id == l.id) ≡ b → find (has_id l.id) ls ≡ Some l → cond b (Some k) (find (has_id l.id) ls) ≡ Some l
    go true is f =
        let there : has_layer k.id ls ≡ true = ap (λ (n : ℕ). has_layer n ls) (eqb-true k.id l.id is) ∙ ap is_some f in
        absurd (not_both (has_layer k.id ls) there d.0)
    go false is f = f

-- so a layer has one place
pub one_place : (ls : List PageLayer) → AreDistinctLayers ls → (i j : ℕ) (l m : PageLayer) → slice_get ls i ≡ Some l → slice_get ls j ≡ Some m → l.id ≡ m.id → i ≡ j
one_place [] d i j l m el em e = absurd (cc)
one_place (k ∷ ls) d zero zero l m el em e = refl
one_place (k ∷ ls) d zero (suc j) l m el em e =
    let named : k.id ≡ m.id = ap (λ (z : PageLayer). z.id) (some_same k l el) ∙ e in
    absurd (not_both (has_layer k.id ls) (ap (λ (n : ℕ). has_layer n ls) named ∙ ap is_some (stands_found ls d.1 j m em)) d.0)
one_place (k ∷ ls) d (suc i) zero l m el em e =
    let named : k.id ≡ l.id = ap (λ (z : PageLayer). z.id) (some_same k m em) ∙ sym e in
    absurd (not_both (has_layer k.id ls) (ap (λ (n : ℕ). has_layer n ls) named ∙ ap is_some (stands_found ls d.1 i l el)) d.0)
one_place (k ∷ ls) d (suc i) (suc j) l m el em e = ap suc (one_place ls d.1 i j l m el em e)

-- the first place at which a layer has the id
pub placed : (id : ℕ) (ls : List Layer) (r : Option ℕ) → r ≡ position (λ (l : Layer). has_id id (parts_of l)) ls → StandsAt id (map parts_of ls) r
placed id ls None is = place_is id ls None is
placed id ls (Some i) is = by_list ls (place_is id ls (Some i) is)
  where
    by_list : (ks : List Layer) → First id ks i → StandsAt id (map parts_of ks) (Some i)
    by_list [] at = absurd (omega (arith, at.within))
    by_list (d ∷ ks) at =
        let l : PageLayer = parts_of (get_or (d ∷ ks) i d) in
        (l, slice_get-map parts_of (d ∷ ks) i ∙ ap (option_map parts_of) (slice_get-get_or (d ∷ ks) i d at.within), found_is id i (d ∷ ks) d at)

-- the layer at a place of the list
pub placed_layer : (ls : List Layer) (i : ℕ) (l : Layer) → i < length ls → l ≡ get_or ls i l → slice_get (map parts_of ls) i ≡ Some (parts_of l)
placed_layer ls i l below at = slice_get-map parts_of ls i ∙ ap (option_map parts_of) (slice_get_read ls (length ls) i l refl below at)
