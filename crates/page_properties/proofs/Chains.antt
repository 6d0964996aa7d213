-- What is gathered along a chain follows from the parent.
use Rattle.std.proofs.Common.{◌≡◌, ℕ, suc, ◌<◌, ◌≤◌, ◌==◌, Bool, true, false, cond, not, ◌&&◌, ◌||◌, List, [], ◌∷◌, length, Option, Some, None, is_some, IsTrue, arith, refl, sym, ◌∙◌, ap, subst}
use Rattle.std.proofs.lemmas.Bool.Decides.{nat_tests}
use Rattle.geom.specs.declared.rect.Point.{Point}
use Rattle.geom.specs.declared.rect.Rect.{Rect}
use Rattle.page_properties.specs.declared.nodes.TransformNode.{TransformNode}
use Rattle.page_properties.specs.declared.nodes.ClipNode.{ClipNode}
use Rattle.page_properties.specs.declared.nodes.EffectNode.{EffectNode}
use Rattle.page_properties.specs.Entries.{find, knows, is_known, gathered}
use Rattle.page_properties.specs.Families.{MayJoin, IsFamily}
use Rattle.page_properties.specs.Laws.{FollowTheParent}
use Rattle.page_properties.specs.Nesting.{lies_in}
use Rattle.page_properties.specs.OffsetMap.{origin}
use Rattle.page_properties.specs.Placement.{plus, own_translation, translation, both, placed_rect, clip_of, draws}
use Rattle.page_properties.specs.Trees.{IsTransform, IsClip, IsEffect}
use Rattle.page_properties.proofs.Indexes.{some_is}

known_by : {N : Type 0} (id k : ℕ) (nodes : List (ℕ × N)) (t : Bool) → id == k ≡ t → knows id nodes ≡ false → 1 ≤ id → IsTrue (is_known k nodes) → t ≡ false
known_by id k nodes false e fresh low known = refl
known_by id k nodes true e fresh low known =
    let same : id ≡ k = grind (arith, nat_tests) in
    let z : k == 0 ≡ false = grind (arith, nat_tests) in
    let n : knows k nodes ≡ false = ap (λ (i : ℕ). knows i nodes) (sym same) ∙ fresh in
    absurd (cc (rw (z, n) at known))

more_by : {N : Type 0} (k : ℕ) (f : ℕ × N) (older : List (ℕ × N)) (t u : Bool) → t || knows k older ≡ true → t || is_some (cond u (Some f.1) (find k older)) ≡ true
more_by k f older true u h = refl
more_by k f older false true h = refl
more_by k f older false false h = h

known_more : {N : Type 0} (k : ℕ) (f : ℕ × N) (older : List (ℕ × N)) → IsTrue (is_known k older) → IsTrue (is_known k (f ∷ older))
known_more k f older h = more_by k f older (k == 0) (f.0 == k) h

-- a known id is none that is new
pub known_other : {N : Type 0} (id k : ℕ) (nodes : List (ℕ × N)) → knows id nodes ≡ false → 1 ≤ id → IsTrue (is_known k nodes) → id == k ≡ false
known_other id k nodes fresh low known = known_by id k nodes (id == k) refl fresh low known

-- how many nodes there are once a node has come; 0 where an id has none
abbrev pub height : {N : Type 0} → ℕ → List (ℕ × N) → ℕ
height id [] = 0
height id (e ∷ older) = cond (e.0 == id) (suc (length older)) (height id older)

height_by : {N : Type 0} (id : ℕ) (older : List (ℕ × N)) (t : Bool) → height id older ≤ length older → cond t (suc (length older)) (height id older) ≤ suc (length older)
height_by id older true h = omega arith
height_by id older false h = omega (arith, h)

pub height_few : {N : Type 0} (id : ℕ) (nodes : List (ℕ × N)) → height id nodes ≤ length nodes
height_few id [] = omega arith
height_few id (e ∷ older) = height_by id older (e.0 == id) (height_few id older)

module _ {N : Type 0} (parent : N → ℕ) (fits : N → Type 0) where
  -- the parent of a node is known
  parent_by : (id : ℕ) (n : N) (e : ℕ × N) (older : List (ℕ × N)) (t : Bool) → MayJoin parent fits e.0 e.1 older → cond t (Some e.1) (find id older) ≡ Some n
      → (find id older ≡ Some n → IsTrue (is_known (parent n) older)) → IsTrue (is_known (parent n) older)
  parent_by id n e older true j h f = let same : e.1 ≡ n = some_is e.1 n h in rw (← same) j.parent_known
  parent_by id n e older false j h f = f h

  pub parent_older : (id : ℕ) (n : N) (e : ℕ × N) (older : List (ℕ × N)) → IsFamily parent fits (e ∷ older) → find id (e ∷ older) ≡ Some n
      → IsTrue (is_known (parent n) older)
  parent_older id n e [] j h = parent_by id n e [] (e.0 == id) j.0 h (λ k. absurd (cc k))
  parent_older id n e (f ∷ older) j h =
      parent_by id n e (f ∷ older) (e.0 == id) j.0 h (λ k. known_more (parent n) f older (parent_older id n f older j.1 k))

  below_by : (id : ℕ) (n : N) (e : ℕ × N) (older : List (ℕ × N)) (t : Bool) → cond t (Some e.1) (find id older) ≡ Some n
      → (find id older ≡ Some n → height (parent n) older < height id older) → height (parent n) older < cond t (suc (length older)) (height id older)
  below_by id n e older true h f = omega (arith, height_few (parent n) older)
  below_by id n e older false h f = f h

  -- a parent came before its child
  pub parent_below : (nodes : List (ℕ × N)) → IsFamily parent fits nodes → (id : ℕ) (n : N) → find id nodes ≡ Some n → height (parent n) nodes < height id nodes
  parent_below [] j id n h = absurd (cc h)
  parent_below (e ∷ older) j id n h =
      let other : e.0 == parent n ≡ false = known_other e.0 (parent n) older j.0.fresh j.0.id_low (parent_older id n e older j h) in
      rw other (below_by id n e older (e.0 == id) h (λ k. parent_below older j.1 id n k))

  fits_by : (id : ℕ) (n : N) (e : ℕ × N) (older : List (ℕ × N)) (t : Bool) → fits e.1 → cond t (Some e.1) (find id older) ≡ Some n → (find id older ≡ Some n → fits n) → fits n
  fits_by id n e older true i h f = subst fits (some_is e.1 n h) i
  fits_by id n e older false i h f = f h

  -- the values of a node are in their ranges
  pub fits_found : (nodes : List (ℕ × N)) → IsFamily parent fits nodes → (id : ℕ) (n : N) → find id nodes ≡ Some n → fits n
  fits_found [] j id n h = absurd (cc h)
  fits_found (e ∷ older) j id n h = fits_by id n e older (e.0 == id) j.0.in_range h (λ k. fits_found older j.1 id n k)

  module _ {A : Type 0} (root : A) (step : ℕ × N → A → A) where
    -- a node that is not of the chain changes nothing
    other : (e : ℕ × N) (older : List (ℕ × N)) (k : ℕ) → e.0 == k ≡ false → gathered parent root step (e ∷ older) k ≡ gathered parent root step older k
    other e older k h = rw h refl

    law_by : (id : ℕ) (n : N) (e : ℕ × N) (older : List (ℕ × N)) (t : Bool) → e.0 == id ≡ t → cond t (Some e.1) (find id older) ≡ Some n
        → gathered parent root step (e ∷ older) (parent n) ≡ gathered parent root step older (parent n)
        → (find id older ≡ Some n → gathered parent root step older id ≡ step (id, n) (gathered parent root step older (parent n)))
        → cond t (step e (gathered parent root step older (parent e.1))) (gathered parent root step older id)
        ≡ step (id, n) (gathered parent root step (e ∷ older) (parent n))
    law_by id n e older true i h k f =
        let same : e.1 ≡ n = some_is e.1 n h in
        let name : e.0 ≡ id = grind (arith, nat_tests) in
        ap (λ (m : N). step (e.0, m) (gathered parent root step older (parent m))) same
        ∙ (ap (λ (j : ℕ). step (j, n) (gathered parent root step older (parent n))) name ∙ ap (step (id, n)) (sym k))
    law_by id n e older false i h k f = f h ∙ ap (step (id, n)) (sym k)

    pub gathered_law : (nodes : List (ℕ × N)) → IsFamily parent fits nodes → (id : ℕ) (n : N) → find id nodes ≡ Some n
        → gathered parent root step nodes id ≡ step (id, n) (gathered parent root step nodes (parent n))
    gathered_law [] j id n h = absurd (cc h)
    gathered_law (e ∷ older) j id n h =
        law_by id n e older (e.0 == id) refl h
        (other e older (parent n) (known_other e.0 (parent n) older j.0.fresh j.0.id_low (parent_older id n e older j h)))
        (λ k. gathered_law older j.1 id n k)

    pub gathered_root : (nodes : List (ℕ × N)) → IsFamily parent fits nodes → gathered parent root step nodes 0 ≡ root
    gathered_root [] j = refl
    gathered_root (e ∷ older) j =
        let low = j.0.id_low in
        let t : e.0 == 0 ≡ false = grind (arith, nat_tests) in rw t (gathered_root older j.1)

    unknown_by : (e : ℕ × N) (older : List (ℕ × N)) (id : ℕ) (t : Bool) → cond t (Some e.1) (find id older) ≡ None → (find id older ≡ None → gathered parent root step older id ≡ root)
        → cond t (step e (gathered parent root step older (parent e.1))) (gathered parent root step older id) ≡ root
    unknown_by e older id true h f = absurd (cc h)
    unknown_by e older id false h f = f h

    -- nothing is gathered at an id without a node
    pub gathered_unknown : (nodes : List (ℕ × N)) (id : ℕ) → find id nodes ≡ None → gathered parent root step nodes id ≡ root
    gathered_unknown [] id h = refl
    gathered_unknown (e ∷ older) id h = unknown_by e older id (e.0 == id) h (λ k. gathered_unknown older id k)

-- the laws of placement
pub translation_law : (offset : ℕ → Point) (nodes : List (ℕ × TransformNode)) → IsFamily (λ (n : TransformNode). n.parent) IsTransform nodes → (id : ℕ) (n : TransformNode)
    → find id nodes ≡ Some n → translation offset nodes id ≡ plus (translation offset nodes n.parent) (own_translation offset n)
unfolding translation
translation_law offset nodes j id n h = gathered_law (λ (m : TransformNode). m.parent) IsTransform origin (λ e above. plus above (own_translation offset e.1)) nodes j id n h

pub translation_root : (offset : ℕ → Point) (nodes : List (ℕ × TransformNode)) → IsFamily (λ (n : TransformNode). n.parent) IsTransform nodes → translation offset nodes 0 ≡ origin
unfolding translation
translation_root offset nodes j = gathered_root (λ (m : TransformNode). m.parent) IsTransform origin (λ e above. plus above (own_translation offset e.1)) nodes j

pub clip_law : (offset : ℕ → Point) (transforms : List (ℕ × TransformNode)) (nodes : List (ℕ × ClipNode)) → IsFamily (λ (n : ClipNode). n.parent) IsClip nodes → (id : ℕ) (n : ClipNode)
    → find id nodes ≡ Some n → clip_of offset transforms nodes id ≡ both (clip_of offset transforms nodes n.parent) (Some (placed_rect offset transforms n))
unfolding clip_of
clip_law offset transforms nodes j id n h =
    gathered_law (λ (m : ClipNode). m.parent) IsClip None (λ e above. both above (Some (placed_rect offset transforms e.1))) nodes j id n h

clip_root : (offset : ℕ → Point) (transforms : List (ℕ × TransformNode)) (nodes : List (ℕ × ClipNode)) → IsFamily (λ (n : ClipNode). n.parent) IsClip nodes
    → clip_of offset transforms nodes 0 ≡ None
unfolding clip_of
clip_root offset transforms nodes j = gathered_root (λ (m : ClipNode). m.parent) IsClip None (λ e above. both above (Some (placed_rect offset transforms e.1))) nodes j

pub draws_law : (nodes : List (ℕ × EffectNode)) → IsFamily (λ (n : EffectNode). n.parent) IsEffect nodes → (id : ℕ) (n : EffectNode) → find id nodes ≡ Some n
    → draws nodes id ≡ not (n.opacity == 0) && draws nodes n.parent
unfolding draws
draws_law nodes j id n h = gathered_law (λ (m : EffectNode). m.parent) IsEffect true (λ e above. not (e.1.opacity == 0) && above) nodes j id n h

draws_root : (nodes : List (ℕ × EffectNode)) → IsFamily (λ (n : EffectNode). n.parent) IsEffect nodes → draws nodes 0 ≡ true
unfolding draws
draws_root nodes j = gathered_root (λ (m : EffectNode). m.parent) IsEffect true (λ e above. not (e.1.opacity == 0) && above) nodes j

-- nothing is placed at an id without a node
pub translation_unknown : (offset : ℕ → Point) (nodes : List (ℕ × TransformNode)) (id : ℕ) → find id nodes ≡ None → translation offset nodes id ≡ origin
unfolding translation
translation_unknown offset nodes id h = gathered_unknown (λ (m : TransformNode). m.parent) IsTransform origin (λ e above. plus above (own_translation offset e.1)) nodes id h

pub clip_unknown : (offset : ℕ → Point) (transforms : List (ℕ × TransformNode)) (nodes : List (ℕ × ClipNode)) (id : ℕ) → find id nodes ≡ None → clip_of offset transforms nodes id ≡ None
unfolding clip_of
clip_unknown offset transforms nodes id h = gathered_unknown (λ (m : ClipNode). m.parent) IsClip None (λ e above. both above (Some (placed_rect offset transforms e.1))) nodes id h

pub draws_unknown : (nodes : List (ℕ × EffectNode)) (id : ℕ) → find id nodes ≡ None → draws nodes id ≡ true
unfolding draws
draws_unknown nodes id h = gathered_unknown (λ (m : EffectNode). m.parent) IsEffect true (λ e above. not (e.1.opacity == 0) && above) nodes id h

pub lies_law : (nodes : List (ℕ × EffectNode)) → IsFamily (λ (n : EffectNode). n.parent) IsEffect nodes → (above id : ℕ) (n : EffectNode) → find id nodes ≡ Some n
    → lies_in nodes above id ≡ (id == above) || lies_in nodes above n.parent
unfolding lies_in
lies_law nodes j above id n h = gathered_law (λ (m : EffectNode). m.parent) IsEffect false (λ e t. (e.0 == above) || t) nodes j id n h

pub follow_the_parent : FollowTheParent
follow_the_parent = record {
  root_translation = λ offset t j. translation_root offset t.transforms j.transforms;
  translation_of = λ offset t j id n h. translation_law offset t.transforms j.transforms id n h;
  root_clip = λ offset t j. clip_root offset t.transforms t.clips j.clips;
  clip = λ offset t j id n h. clip_law offset t.transforms t.clips j.clips id n h;
  root_draws = λ t j. draws_root t.effects j.effects;
  effect_draws = λ t j id n h. draws_law t.effects j.effects id n h;
  effect_lies = λ t j above id n h. lies_law t.effects j.effects above id n h;
}

both_some : (o : Option Rect) (r : Rect) → is_some (both o (Some r)) ≡ true
both_some None r = refl
both_some (Some q) r = refl

clip_by : (offset : ℕ → Point) (transforms : List (ℕ × TransformNode)) (e : ℕ × ClipNode) (older : List (ℕ × ClipNode)) (id : ℕ) (t : Bool)
    → is_some (clip_of offset transforms older id) ≡ knows id older
    → is_some (cond t (both (clip_of offset transforms older e.1.parent) (Some (placed_rect offset transforms e.1))) (clip_of offset transforms older id))
    ≡ is_some (cond t (Some e.1) (find id older))
clip_by offset transforms e older id true h = both_some (clip_of offset transforms older e.1.parent) (placed_rect offset transforms e.1)
clip_by offset transforms e older id false h = h

-- a clip is there exactly where its id is known
pub clip_some : (offset : ℕ → Point) (transforms : List (ℕ × TransformNode)) (nodes : List (ℕ × ClipNode)) (id : ℕ)
    → is_some (clip_of offset transforms nodes id) ≡ knows id nodes
unfolding clip_of
clip_some offset transforms [] id = refl
clip_some offset transforms (e ∷ older) id = clip_by offset transforms e older id (e.0 == id) (clip_some offset transforms older id)
