-- What holds of a node follows from its parent.
use Rattle.std.proofs.Common.{◌≡◌, ℕ, ◌*◌, ◌==◌, ℤ, Bool, true, false, not, cond, ◌&&◌, List, [], ◌∷◌, Option, Some, None, refl, sym, ◌∙◌, ap, subst}
use Rattle.geom.specs.declared.rect.Point.{Point}
use Rattle.geom.specs.declared.rect.Rect.{Rect}
use Rattle.geom.specs.Covers.{covers}
use Rattle.geom.specs.Gaps.{shifted}
use Rattle.geom.proofs.Spans.{common_points}
use Rattle.page_properties.specs.declared.nodes.ClipNode.{ClipNode}
use Rattle.page_properties.specs.declared.nodes.EffectNode.{EffectNode}
use Rattle.page_properties.specs.declared.nodes.TransformNode.{TransformNode}
use Rattle.page_properties.specs.Entries.{find}
use Rattle.page_properties.specs.Families.{IsFamily}
use Rattle.page_properties.specs.OffsetMap.{origin, AreOffsets}
use Rattle.page_properties.specs.Placement.{plus, own_translation, translation, both, clip_of, draws, placed_rect, IsWithin}
use Rattle.page_properties.specs.Trees.{Trees, IsTrees, IsTransform, IsClip, IsEffect}
use Rattle.page_properties.proofs.Chains.{follow_the_parent}
use Rattle.page_properties.proofs.Walks.{near as near_in}
use Rattle.page_layers.specs.TreePainting.{lets_through}
use Rattle.page_hit_test.specs.inner.Found.{is_open_at}
use Rattle.page_hit_test.proofs.ChainWalks.{gathered_none}

-- how far from the origin a transform may stand
pub near : (offset : ℕ → Point) → AreOffsets offset → (t : Trees) → IsTrees t → (id : ℕ) → IsWithin (256 * 1114112) (translation offset t.transforms id)
near offset a t j id = near_in offset a t.transforms j.transforms id

-- the translation of a transform, by its parent's
pub place_more : (offset : ℕ → Point) (t : Trees) → IsTrees t → (id : ℕ) (n : TransformNode) → find id t.transforms ≡ Some n
    → (above r : Point) → above ≡ translation offset t.transforms n.parent → r ≡ plus above (own_translation offset n)
    → r ≡ translation offset t.transforms id
place_more offset t j id n h above r ea er =
    er ∙ (λ i. plus (ea i) (own_translation offset n)) ∙ sym (follow_the_parent.translation_of offset t j id n h)

pub place_none : (offset : ℕ → Point) (t : Trees) (id : ℕ) → find id t.transforms ≡ None → origin ≡ translation offset t.transforms id
unfolding translation
place_none offset t id h = sym (gathered_none (λ (m : TransformNode). m.parent) IsTransform origin (λ e above. plus above (own_translation offset e.1)) t.transforms id h)

-- what two restrictions let through
lets_both : (o : Option Rect) (r : Rect) (x y : ℤ) → lets_through (both o (Some r)) x y ≡ lets_through o x y && covers r x y
lets_both None r x y = refl
lets_both (Some q) r x y = common_points q r x y

-- whether a clip lets a point through, by its parent
pub open_more : (offset : ℕ → Point) (t : Trees) → IsTrees t → (p : Point) (id : ℕ) (n : ClipNode) → find id t.clips ≡ Some n
    → (above own' : Bool) (by : Point) → above ≡ is_open_at offset t p n.parent → by ≡ translation offset t.transforms n.transform → own' ≡ covers (shifted n.rect by) p.x p.y
    → above && own' ≡ is_open_at offset t p id
open_more offset t j p id n h above own' by ea eb eo =
    (λ i. ea i && (eo ∙ ap (λ (q : Point). covers (shifted n.rect q) p.x p.y) eb) i)
    ∙ sym (lets_both (clip_of offset t.transforms t.clips n.parent) (placed_rect offset t.transforms n) p.x p.y)
    ∙ ap (λ (o : Option Rect). lets_through o p.x p.y) (sym (follow_the_parent.clip offset t j id n h))

pub open_none : (offset : ℕ → Point) (t : Trees) (p : Point) (id : ℕ) → find id t.clips ≡ None → true ≡ is_open_at offset t p id
unfolding clip_of
open_none offset t p id h =
    ap (λ (o : Option Rect). lets_through o p.x p.y)
    (sym (gathered_none (λ (m : ClipNode). m.parent) IsClip None (λ e above. both above (Some (placed_rect offset t.transforms e.1))) t.clips id h))

-- whether an effect is drawn, by its parent
pub drawn_more : (t : Trees) → IsTrees t → (id : ℕ) (n : EffectNode) → find id t.effects ≡ Some n → (above : Bool) → above ≡ draws t.effects n.parent
    → not (n.opacity == 0) && above ≡ draws t.effects id
drawn_more t j id n h above ea = ap (λ b. not (n.opacity == 0) && b) ea ∙ sym (follow_the_parent.effect_draws t j id n h)

pub drawn_none : (t : Trees) (id : ℕ) → find id t.effects ≡ None → true ≡ draws t.effects id
unfolding draws
drawn_none t id h = sym (gathered_none (λ (m : EffectNode). m.parent) IsEffect true (λ e above. not (e.1.opacity == 0) && above) t.effects id h)

-- of the root all is true
pub open_root : (offset : ℕ → Point) (t : Trees) → IsTrees t → (p : Point) → is_open_at offset t p 0 ≡ true
open_root offset t j p = ap (λ (o : Option Rect). lets_through o p.x p.y) (follow_the_parent.root_clip offset t j)

-- a node that is found is in its range
pub fits_found : {N : Type 0} (parent : N → ℕ) (fits : N → Type 0) (nodes : List (ℕ × N)) → IsFamily parent fits nodes → (id : ℕ) (n : N) → find id nodes ≡ Some n → fits n
fits_found parent fits [] j id n h = absurd (cc)
fits_found {N} parent fits (e ∷ older) j id n h = go (e.0 == id) h (fits_found parent fits older j.1 id n)
  where
    go : (b : Bool) → cond b (Some e.1) (find id older) ≡ Some n → (find id older ≡ Some n → fits n) → fits n
    go true k rest = let same : e.1 ≡ n = cc in subst fits same j.0.in_range
    go false k rest = rest k
