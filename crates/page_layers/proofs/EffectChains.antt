-- The groups of an effect, gathered from the effect up.
use Rattle.std.proofs.Common.{ℕ, suc, ◌≡◌, ◌+◌, ◌<◌, ◌≤◌, ◌==◌, Bool, true, false, cond, Some, None, List, [], ◌∷◌, ◌++◌, length, map, All, refl, ap, sym, ◌∙◌, subst, append_assoc, append-nil, arith}
use Rattle.std.proofs.lemmas.List.Elements.{All-nil, All-cons}
use Rattle.page_properties.specs.declared.nodes.EffectNode.{EffectNode}
use Rattle.page_properties.specs.Entries.{find}
use Rattle.page_properties.specs.Trees.{AreEffects, IsEffect}
use Rattle.page_properties.proofs.Chains.{gathered_law, parent_older, known_other}
use Rattle.page_layers.specs.declared.paint.Group.{Group}
use Rattle.page_layers.specs.TreePainting.{groups_in, opacity_in}
use Rattle.page_layers.specs.IfThere.{opacity_or_255}

-- how many nodes stand from the oldest up to that of an effect; 0 where it has none
abbrev pub rank : List (ℕ × EffectNode) → ℕ → ℕ
rank [] id = 0
rank (e ∷ older) id = cond (e.0 == id) (suc (length older)) (rank older id)

pub rank_most : (nodes : List (ℕ × EffectNode)) (id : ℕ) → rank nodes id ≤ length nodes
rank_most [] id = omega arith
rank_most (e ∷ older) id = go (e.0 == id) (rank_most older id)
  where
    go : (b : Bool) → rank older id ≤ length older → cond b (suc (length older)) (rank older id) ≤ suc (length older)
    go true h = omega arith
    go false h = omega (arith, h)

-- an effect's parent is older
pub parent_below : (nodes : List (ℕ × EffectNode)) → AreEffects nodes → (id : ℕ) (n : EffectNode) → find id nodes ≡ Some n → rank nodes n.parent < rank nodes id
parent_below [] j id n h = absurd (cc)
parent_below (e ∷ older) j id n h =
    go (e.0 == id) (e.0 == n.parent) (known_other e.0 n.parent older j.0.fresh j.0.id_low (parent_older (λ (m : EffectNode). m.parent) IsEffect id n e older j h)) h (parent_below older j.1 id n) (rank_most older n.parent)
  where
    go : (b t : Bool) → t ≡ false → cond b (Some e.1) (find id older) ≡ Some n → (find id older ≡ Some n → rank older n.parent < rank older id) → rank older n.parent ≤ length older
        → cond t (suc (length older)) (rank older n.parent) < cond b (suc (length older)) (rank older id)
    go b true other h rest most = absurd (cc)
    go true false other h rest most = omega (arith, most)
    go false false other h rest most = rest h

-- an effect that is not there lies in no group
pub no_groups : (nodes : List (ℕ × EffectNode)) (id : ℕ) → find id nodes ≡ None → groups_in nodes id ≡ []
no_groups [] id h = refl
no_groups (e ∷ older) id h = go (e.0 == id) _ h (no_groups older id)
  where
    go : (b : Bool) (gs : List ℕ) → cond b (Some e.1) (find id older) ≡ None → (find id older ≡ None → groups_in older id ≡ []) → cond b gs (groups_in older id) ≡ []
    go true gs h rest = absurd (cc)
    go false gs h rest = rest h

-- an effect lies in the groups of its parent, and in its own where it is below 255
pub groups_law : (nodes : List (ℕ × EffectNode)) → AreEffects nodes → (id : ℕ) (n : EffectNode) → find id nodes ≡ Some n
    → groups_in nodes id ≡ cond (n.opacity == 255) (groups_in nodes n.parent) (groups_in nodes n.parent ++ id ∷ [])
groups_law nodes j id n h = gathered_law (λ (m : EffectNode). m.parent) IsEffect [] (λ e above. cond (e.1.opacity == 255) above (above ++ e.0 ∷ [])) nodes j id n h

-- the groups that were gathered on the way up to an effect
pub record Gathered (nodes : List (ℕ × EffectNode)) (effect id : ℕ) (groups : List Group) : Type 0 where
  pub all : groups_in nodes id ++ map (λ g. g.effect) groups ≡ groups_in nodes effect
  pub opacities : All (λ g. opacity_in nodes g.effect ≡ g.opacity) groups
  pub few : length groups + rank nodes id ≤ length nodes

-- at first none
pub none_gathered : (nodes : List (ℕ × EffectNode)) (effect : ℕ) (groups : List Group) → groups ≡ [] → Gathered nodes effect effect groups
none_gathered nodes effect groups none =
    subst (λ (gs : List Group). Gathered nodes effect effect gs) (sym none)
    (record { all = append-nil (groups_in nodes effect); opacities = All-nil (λ (g : Group). opacity_in nodes g.effect ≡ g.opacity); few = omega (arith, rank_most nodes effect) })

-- one effect further up
pub gathered_more : (nodes : List (ℕ × EffectNode)) → AreEffects nodes → (effect id : ℕ) (n : EffectNode) (groups more : List Group) → find id nodes ≡ Some n
    → more ≡ cond (n.opacity == 255) groups (record { effect = id; opacity = n.opacity } ∷ groups) → Gathered nodes effect id groups → Gathered nodes effect n.parent more
gathered_more nodes j effect id n groups more found is old =
    subst (λ (gs : List Group). Gathered nodes effect n.parent gs) (sym is) (go (n.opacity == 255) (groups_law nodes j id n found))
  where
    lower : rank nodes n.parent < rank nodes id
    lower = parent_below nodes j id n found

    own : opacity_in nodes id ≡ n.opacity
    own = ap opacity_or_255 found

    go : (b : Bool) → groups_in nodes id ≡ cond b (groups_in nodes n.parent) (groups_in nodes n.parent ++ id ∷ []) → Gathered nodes effect n.parent (cond b groups (record { effect = id; opacity = n.opacity } ∷ groups))
    go true law = record { all = ap (λ (es : List ℕ). es ++ map (λ (g : Group). g.effect) groups) (sym law) ∙ old.all; opacities = old.opacities; few = omega (arith, lower, old.few) }
    go false law = record {
      all = sym (append_assoc (groups_in nodes n.parent) (id ∷ []) (map (λ (g : Group). g.effect) groups)) ∙ ap (λ (es : List ℕ). es ++ map (λ (g : Group). g.effect) groups) (sym law) ∙ old.all;
      opacities = All-cons (λ (g : Group). opacity_in nodes g.effect ≡ g.opacity) (record { effect = id; opacity = n.opacity }) groups own old.opacities;
      few = omega (arith, lower, old.few);
    }

-- at the root all are gathered
pub all_gathered : (nodes : List (ℕ × EffectNode)) (effect id : ℕ) (groups : List Group) → find id nodes ≡ None → Gathered nodes effect id groups → map (λ g. g.effect) groups ≡ groups_in nodes effect
all_gathered nodes effect id groups none h = ap (λ (es : List ℕ). es ++ map (λ (g : Group). g.effect) groups) (sym (no_groups nodes id none)) ∙ h.all

-- a family has at most 256 nodes
pub family_few : (nodes : List (ℕ × EffectNode)) → AreEffects nodes → length nodes ≤ 256
family_few [] j = omega arith
family_few (e ∷ older) j = omega (arith, j.0.few)
