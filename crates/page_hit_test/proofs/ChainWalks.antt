-- The chains that a hit test walks.
use Rattle.std.proofs.Common.{◌≡◌, ℕ, suc, ◌<◌, ◌≤◌, ◌==◌, Bool, true, false, cond, List, [], ◌∷◌, length, Option, Some, None, option_map, refl, ap, arith}
use Rattle.page_properties.specs.declared.nodes.ScrollNode.{ScrollNode}
use Rattle.page_properties.specs.declared.nodes.TransformNode.{TransformNode}
use Rattle.page_properties.specs.Entries.{find, gathered}
use Rattle.page_properties.specs.Families.{IsFamily}
use Rattle.page_properties.specs.Trees.{IsTransform, IsRange, AreTransforms, AreScrollers}
use Rattle.page_properties.proofs.Chains.{gathered_law, parent_older, known_other}
use Rattle.page_layers.specs.Layers.{PageLayer}
use Rattle.page_layers.specs.Pages.{Page}
use Rattle.page_layers.specs.Hits.{nearest_scroller, scrollers_from, chain}
use Rattle.page_layers.specs.IfThere.{chain_or_none}

-- how many nodes stand from the oldest up to that of an id; 0 where it has none
abbrev pub age : {N : Type 0} → List (ℕ × N) → ℕ → ℕ
age [] id = 0
age (e ∷ older) id = cond (e.0 == id) (suc (length older)) (age older id)

age_most : {N : Type 0} (nodes : List (ℕ × N)) (id : ℕ) → age nodes id ≤ length nodes
age_most [] id = omega arith
age_most (e ∷ older) id = go (e.0 == id) (age_most older id)
  where
    go : (b : Bool) → age older id ≤ length older → cond b (suc (length older)) (age older id) ≤ suc (length older)
    go true h = omega arith
    go false h = omega (arith, h)

module _ {N : Type 0} (parent : N → ℕ) (fits : N → Type 0) where
  -- a parent is older
  pub parent_below : (nodes : List (ℕ × N)) → IsFamily parent fits nodes → (id : ℕ) (n : N) → find id nodes ≡ Some n → age nodes (parent n) < age nodes id
  parent_below [] j id n h = absurd (cc)
  parent_below (e ∷ older) j id n h =
      go (e.0 == id) (e.0 == parent n) (known_other e.0 (parent n) older j.0.fresh j.0.id_low (parent_older parent fits id n e older j h)) h (parent_below older j.1 id n) (age_most older (parent n))
    where
      go : (b t : Bool) → t ≡ false → cond b (Some e.1) (find id older) ≡ Some n → (find id older ≡ Some n → age older (parent n) < age older id) → age older (parent n) ≤ length older
          → cond t (suc (length older)) (age older (parent n)) < cond b (suc (length older)) (age older id)
      go b true other h rest most = absurd (cc)
      go true false other h rest most = omega (arith, most)
      go false false other h rest most = rest h

  -- nothing is gathered for an id that is not there
  pub gathered_none : {A : Type 0} (root : A) (step : ℕ × N → A → A) (nodes : List (ℕ × N)) (id : ℕ) → find id nodes ≡ None → gathered parent root step nodes id ≡ root
  gathered_none root step [] id h = refl
  gathered_none {A} root step (e ∷ older) id h = go (e.0 == id) _ h (gathered_none root step older id)
    where
      go : (b : Bool) (x : A) → cond b (Some e.1) (find id older) ≡ None → (find id older ≡ None → gathered parent root step older id ≡ root) → cond b x (gathered parent root step older id) ≡ root
      go true x h rest = absurd (cc)
      go false x h rest = rest h

-- the nearest scroller of a transform, by its node
pub nearest_law : (nodes : List (ℕ × TransformNode)) → AreTransforms nodes → (id : ℕ) (n : TransformNode) → find id nodes ≡ Some n
    → nearest_scroller nodes id ≡ cond (n.scroller == 0) (nearest_scroller nodes n.parent) n.scroller
nearest_law nodes j id n h = gathered_law (λ (m : TransformNode). m.parent) IsTransform 0 (λ e above. cond (e.1.scroller == 0) above e.1.scroller) nodes j id n h

pub nearest_none : (nodes : List (ℕ × TransformNode)) (id : ℕ) → find id nodes ≡ None → nearest_scroller nodes id ≡ 0
nearest_none nodes id h = gathered_none (λ (m : TransformNode). m.parent) IsTransform 0 (λ e above. cond (e.1.scroller == 0) above e.1.scroller) nodes id h

-- a scroller's chain, by its node
pub chain_law : (nodes : List (ℕ × ScrollNode)) → AreScrollers nodes → (id : ℕ) (n : ScrollNode) → find id nodes ≡ Some n → scrollers_from nodes id ≡ id ∷ scrollers_from nodes n.parent
chain_law nodes j id n h = gathered_law (λ (m : ScrollNode). m.parent) IsRange [] (λ e above. e.0 ∷ above) nodes j id n h

pub chain_none : (nodes : List (ℕ × ScrollNode)) (id : ℕ) → find id nodes ≡ None → scrollers_from nodes id ≡ []
chain_none nodes id h = gathered_none (λ (m : ScrollNode). m.parent) IsRange [] (λ e above. e.0 ∷ above) nodes id h

-- the chain of a layer, by its transform
pub chain_found : (p : Page) (o : Option PageLayer) (t : ℕ) → option_map (λ (l : PageLayer). l.transform) o ≡ Some t → scrollers_from p.props.scrollers (nearest_scroller p.props.transforms t) ≡ chain_or_none p o
unfolding chain
chain_found p None t e = absurd (cc)
chain_found p (Some l) t e = let same : t ≡ l.transform = cc in ap (λ (n : ℕ). scrollers_from p.props.scrollers (nearest_scroller p.props.transforms n)) same
