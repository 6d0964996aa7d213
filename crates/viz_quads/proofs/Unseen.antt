-- A layer that is not drawn lies in a group of opacity 0.
use Rattle.std.proofs.Common.{ℕ, ◌≡◌, ◌==◌, Bool, true, false, cond, not, ◌&&◌, ◌||◌, Some, List, [], ◌∷◌, ◌++◌, refl, ap, ◌∙◌, eqb-true, arith}
use Rattle.std.specs.Prelude.{is_some}
use Rattle.std.specs.List.{list_any}
use Rattle.std.proofs.lemmas.Bool.Decides.{nat_tests}
use Rattle.page_properties.specs.declared.nodes.EffectNode.{EffectNode}
use Rattle.page_properties.specs.Entries.{find, knows}
use Rattle.page_properties.specs.Placement.{draws}
use Rattle.page_properties.specs.Trees.{AreEffects}
use Rattle.page_layers.specs.TreePainting.{groups_in, opacity_in}
use Rattle.page_layers.specs.IfThere.{opacity_or_255}

-- each node's effect has the opacity of the node
Agree : (ℕ → ℕ) → List (ℕ × EffectNode) → Type 0
Agree opacity [] = Unit {0}
Agree opacity (e ∷ older) = (opacity e.0 ≡ e.1.opacity) × Agree opacity older

any_append : {A : Type 0} (p : A → Bool) (xs ys : List A) → list_any p (xs ++ ys) ≡ list_any p xs || list_any p ys
any_append p [] ys = refl
any_append p (x ∷ xs) ys = ap (λ (t : Bool). p x || t) (any_append p xs ys) ∙ shift (p x) (list_any p xs) (list_any p ys)
  where
    shift : (a b c : Bool) → a || (b || c) ≡ (a || b) || c
    shift true b c = refl
    shift false b c = refl

-- an effect that is not drawn lies in a group of opacity 0
hidden_in : (opacity : ℕ → ℕ) (nodes : List (ℕ × EffectNode)) → Agree opacity nodes → (id : ℕ) → draws nodes id ≡ false → list_any (λ g. opacity g == 0) (groups_in nodes id) ≡ true
unfolding Agree draws
hidden_in opacity [] a id h = absurd (cc)
hidden_in opacity (e ∷ older) a id h = go (e.0 == id) h (hidden_in opacity older a.1 id) (hidden_in opacity older a.1 e.1.parent)
  where
    or_true : (b : Bool) → b || true ≡ true
    or_true true = refl
    or_true false = refl

    and_false : (b c : Bool) → not b && c ≡ false → b ≡ false → c ≡ false
    and_false true c h e = absurd (cc)
    and_false false c h e = h

    zero_low : (n : ℕ) → (n == 0) ≡ true → (n == 255) ≡ false
    zero_low n e = let z : n ≡ 0 = eqb-true n 0 e in ap (λ (m : ℕ). m == 255) z

    own : (o : Bool) → (e.1.opacity == 0) ≡ o → not (e.1.opacity == 0) && draws older e.1.parent ≡ false → (draws older e.1.parent ≡ false → list_any (λ g. opacity g == 0) (groups_in older e.1.parent) ≡ true)
        → list_any (λ g. opacity g == 0) (cond (e.1.opacity == 255) (groups_in older e.1.parent) (groups_in older e.1.parent ++ e.0 ∷ [])) ≡ true
    own true z f rest =
        ap (λ (t : Bool). list_any (λ g. opacity g == 0) (cond t (groups_in older e.1.parent) (groups_in older e.1.parent ++ e.0 ∷ []))) (zero_low e.1.opacity z)
        ∙ any_append (λ g. opacity g == 0) (groups_in older e.1.parent) (e.0 ∷ [])
        ∙ ap (λ (n : ℕ). list_any (λ g. opacity g == 0) (groups_in older e.1.parent) || ((n == 0) || false)) a.0
        ∙ ap (λ (t : Bool). list_any (λ g. opacity g == 0) (groups_in older e.1.parent) || (t || false)) z
        ∙ or_true (list_any (λ g. opacity g == 0) (groups_in older e.1.parent))
    own false z f rest = pick (e.1.opacity == 255)
      where
        above : list_any (λ g. opacity g == 0) (groups_in older e.1.parent) ≡ true
        above = rest (and_false (e.1.opacity == 0) (draws older e.1.parent) f z)

        pick : (b : Bool) → list_any (λ g. opacity g == 0) (cond b (groups_in older e.1.parent) (groups_in older e.1.parent ++ e.0 ∷ [])) ≡ true
        pick true = above
        pick false = any_append (λ g. opacity g == 0) (groups_in older e.1.parent) (e.0 ∷ []) ∙ ap (λ (t : Bool). t || list_any (λ g. opacity g == 0) (e.0 ∷ [])) above

    go : (b : Bool) → cond b (not (e.1.opacity == 0) && draws older e.1.parent) (draws older id) ≡ false → (draws older id ≡ false → list_any (λ g. opacity g == 0) (groups_in older id) ≡ true)
        → (draws older e.1.parent ≡ false → list_any (λ g. opacity g == 0) (groups_in older e.1.parent) ≡ true)
        → list_any (λ g. opacity g == 0) (cond b (cond (e.1.opacity == 255) (groups_in older e.1.parent) (groups_in older e.1.parent ++ e.0 ∷ [])) (groups_in older id)) ≡ true
    go true f rest above = own (e.1.opacity == 0) refl f above
    go false f rest above = rest f

-- the opacities of the nodes are theirs
fresh_of : (id : ℕ) (k : ℕ × EffectNode) (older : List (ℕ × EffectNode)) → knows id (k ∷ older) ≡ false → ((k.0 == id) ≡ false) × (knows id older ≡ false)
fresh_of id k older h = go (k.0 == id) h
  where
    go : (b : Bool) → is_some (cond b (Some k.1) (find id older)) ≡ false → (b ≡ false) × (knows id older ≡ false)
    go true f = absurd (cc)
    go false f = (refl, f)

agree_more : (e : ℕ × EffectNode) (nodes older : List (ℕ × EffectNode)) → knows e.0 older ≡ false → Agree (opacity_in nodes) older → Agree (opacity_in (e ∷ nodes)) older
unfolding Agree
agree_more e nodes [] fresh a = tt
agree_more e nodes (k ∷ older) fresh a =
    let f = fresh_of e.0 k older fresh in
    (other (e.0 == k.0) (turned e.0 k.0 f.0) ∙ a.0, agree_more e nodes older f.1 a.1)
  where
    turned : (n m : ℕ) → (m == n) ≡ false → (n == m) ≡ false
    turned n m h = grind (arith, nat_tests)

    other : (b : Bool) → b ≡ false → opacity_or_255 (cond b (Some e.1) (find k.0 nodes)) ≡ opacity_in nodes k.0
    other true is = absurd (cc)
    other false is = refl

agrees : (nodes : List (ℕ × EffectNode)) → AreEffects nodes → Agree (opacity_in nodes) nodes
unfolding Agree
agrees [] j = tt
agrees (e ∷ older) j = (own (e.0 == e.0) (grind (arith, nat_tests)), agree_more e older older j.0.fresh (agrees older j.1))
  where
    own : (b : Bool) → b ≡ true → opacity_or_255 (cond b (Some e.1) (find e.0 older)) ≡ e.1.opacity
    own true is = refl
    own false is = absurd (cc)

pub unseen : (nodes : List (ℕ × EffectNode)) → AreEffects nodes → (id : ℕ) → draws nodes id ≡ false → list_any (λ g. opacity_in nodes g == 0) (groups_in nodes id) ≡ true
unseen nodes j id h = hidden_in (opacity_in nodes) nodes (agrees nodes j) id h
