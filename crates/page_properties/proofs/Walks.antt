-- The way up a chain: what is left of it, and what was gathered.
use Rattle.std.proofs.Common.{◌≡◌, ℕ, suc, ◌+◌, ◌-◌, ◌*◌, ◌<◌, ◌≤◌, ◌==◌, ℤ, ◌+ℤ◌, ◌-ℤ◌, Bool, true, false, cond, List, [], ◌∷◌, length, Option, Some, None, IfSome, arith, refl, sym, ◌∙◌, ap}
use Rattle.std.proofs.lemmas.Int.{ints}
use Rattle.geom.specs.declared.rect.Point.{Point}
use Rattle.geom.specs.declared.rect.Rect.{Rect}
use Rattle.geom.specs.Covers.{IsSound}
use Rattle.geom.specs.Gaps.{shifted}
use Rattle.page_properties.specs.declared.nodes.TransformNode.{TransformNode}
use Rattle.page_properties.specs.declared.nodes.ClipNode.{ClipNode}
use Rattle.page_properties.specs.Entries.{find}
use Rattle.page_properties.specs.OffsetMap.{origin, IsOffset, AreOffsets}
use Rattle.page_properties.specs.Placement.{plus, minus, own_translation, scrolled, translation, both, clip_of, IsWithin}
use Rattle.page_properties.specs.Trees.{AreClips, AreTransforms, IsClipRect, IsTransform}
use Rattle.page_properties.proofs.Chains.{height, height_few, parent_below, fits_found, translation_law, translation_unknown, clip_law, clip_unknown}
use Rattle.page_properties.proofs.Families.{family_few}
use Rattle.page_properties.proofs.Clips.{both_assoc}

same_point : (p q : Point) → p.x ≡ q.x → p.y ≡ q.y → p ≡ q
same_point p q h k = ap (λ (z : ℤ). record { x = z; y = p.y }) h ∙ ap (λ (z : ℤ). record { x = q.x; y = z }) k

-- how far a scroller has moved what it scrolls
pub own_offset : (offset : ℕ → Point) → AreOffsets offset → (scroller : ℕ) → IsOffset (scrolled offset scroller)
own_offset offset a scroller = go (scroller == 0)
  where
    go : (b : Bool) → IsOffset (cond b origin (offset scroller))
    go true = record { left = omega (arith, ints); right = omega (arith, ints); upper = omega (arith, ints); lower = omega (arith, ints) }
    go false = a scroller

within_none : IsWithin 0 origin
within_none = record { left = omega (arith, ints); right = omega (arith, ints); upper = omega (arith, ints); lower = omega (arith, ints) }

within_more : (m n : ℕ) (p : Point) → m ≤ n → IsWithin m p → IsWithin n p
within_more m n p h w = record {
  left = omega (arith, ints, w.left);
  right = omega (arith, ints, w.right);
  upper = omega (arith, ints, w.upper);
  lower = omega (arith, ints, w.lower);
}

within_step : (m : ℕ) (p q : Point) (n : TransformNode) (o : Point) → IsWithin m p → IsTransform n → IsOffset o
    → q.x ≡ p.x +ℤ (n.x -ℤ o.x) → q.y ≡ p.y +ℤ (n.y -ℤ o.y) → IsWithin (m + 1114112) q
within_step m p q n o w r i across down = record {
  left = omega (arith, ints, w.left, r.across.low, i.right);
  right = omega (arith, ints, w.right, r.across.high, i.left);
  upper = omega (arith, ints, w.upper, r.down.low, i.lower);
  lower = omega (arith, ints, w.lower, r.down.high, i.upper);
}

carry : (t a o p q : Point) → q.x ≡ p.x +ℤ (a.x -ℤ o.x) → q.y ≡ p.y +ℤ (a.y -ℤ o.y) → plus t q ≡ plus (plus t (minus a o)) p
carry t a o p q h k = same_point _ _ (omega (arith, ints)) (omega (arith, ints))

-- on the way up from `start` a translation has come to `id`, with the sum of the nodes below
pub record Climbed (offset : ℕ → Point) (nodes : List (ℕ × TransformNode)) (start id : ℕ) (sum : Point) : Type 0 where
  pub near : IsWithin ((length nodes - height id nodes) * 1114112) sum
  pub value : plus (translation offset nodes id) sum ≡ translation offset nodes start

pub climbed_none : (offset : ℕ → Point) (nodes : List (ℕ × TransformNode)) (start : ℕ) → Climbed offset nodes start start origin
climbed_none offset nodes start = record {
  near = within_more 0 _ origin (omega arith) within_none;
  value = same_point _ _ (omega (arith, ints)) (omega (arith, ints));
}

module _ (offset : ℕ → Point) (nodes : List (ℕ × TransformNode)) (start id : ℕ) (sum : Point) (w : Climbed offset nodes start id sum) where
  -- at the root all was gathered
  pub climbed_all : find id nodes ≡ None → sum ≡ translation offset nodes start
  climbed_all h =
      same_point sum (plus origin sum) (omega (arith, ints)) (omega (arith, ints))
      ∙ (ap (λ (p : Point). plus p sum) (sym (translation_unknown offset nodes id h)) ∙ w.value)

  module _ (j : AreTransforms nodes) where
    pub climbed_near : IsWithin (256 * 1114112) sum
    climbed_near = let few = family_few (λ (n : TransformNode). n.parent) IsTransform nodes j in within_more _ _ sum (omega (arith, few)) w.near

    module _ (n : TransformNode) (h : find id nodes ≡ Some n) where
      below : height n.parent nodes < height id nodes
      below = parent_below (λ (m : TransformNode). m.parent) IsTransform nodes j id n h

      -- a node of the chain adds its own translation
      pub climbed_step : (sum' : Point) → AreOffsets offset → sum' ≡ plus sum (own_translation offset n) → Climbed offset nodes start n.parent sum'
      climbed_step sum' a e =
          let r = fits_found (λ (m : TransformNode). m.parent) IsTransform nodes j id n h in
          let few = height_few id nodes in
          let o : Point = scrolled offset n.scroller in
          let across : sum'.x ≡ sum.x +ℤ (n.x -ℤ o.x) = ap (λ (p : Point). p.x) e in
          let down : sum'.y ≡ sum.y +ℤ (n.y -ℤ o.y) = ap (λ (p : Point). p.y) e in
          record {
            near =
                within_more ((length nodes - height id nodes) * 1114112 + 1114112) _ sum' (omega (arith, below, few))
                (within_step _ sum sum' n o w.near r (own_offset offset a n.scroller) across down);
            value =
                carry (translation offset nodes n.parent) (record { x = n.x; y = n.y }) o sum sum' across down
                ∙ (ap (λ (p : Point). plus p sum) (sym (translation_law offset nodes j id n h)) ∙ w.value);
          }

-- a translation goes no further than its nodes together
near_nodes : (offset : ℕ → Point) → AreOffsets offset → (nodes : List (ℕ × TransformNode)) → AreTransforms nodes → (id : ℕ) → IsWithin (length nodes * 1114112) (translation offset nodes id)
unfolding translation
near_nodes offset a [] j id = within_none
near_nodes offset a (e ∷ older) j id = go (e.0 == id) (near_nodes offset a older j.1 e.1.parent) (near_nodes offset a older j.1 id)
  where
    go : (b : Bool) → IsWithin (length older * 1114112) (translation offset older e.1.parent) → IsWithin (length older * 1114112) (translation offset older id)
        → IsWithin (suc (length older) * 1114112) (cond b (plus (translation offset older e.1.parent) (own_translation offset e.1)) (translation offset older id))
    go true h k =
        within_more (length older * 1114112 + 1114112) _ _ (omega arith)
        (within_step (length older * 1114112) (translation offset older e.1.parent) _ e.1 (scrolled offset e.1.scroller) h j.0.in_range (own_offset offset a e.1.scroller) refl refl)
    go false h k = within_more (length older * 1114112) _ _ (omega arith) k

pub near : (offset : ℕ → Point) → AreOffsets offset → (nodes : List (ℕ × TransformNode)) → AreTransforms nodes → (id : ℕ) → IsWithin (256 * 1114112) (translation offset nodes id)
near offset a nodes j id =
    let few = family_few (λ (n : TransformNode). n.parent) IsTransform nodes j in
    within_more (length nodes * 1114112) _ _ (omega (arith, few)) (near_nodes offset a nodes j id)

-- on the way up a clip has come to `id`, with the common part of those below; the clip of `id` makes it the whole
pub record Clipped (offset : ℕ → Point) (transforms : List (ℕ × TransformNode)) (nodes : List (ℕ × ClipNode)) (whole : Option Rect) (id : ℕ) (inner : Option Rect) : Type 0 where
  pub sound : IfSome inner IsSound
  pub value : both (clip_of offset transforms nodes id) inner ≡ whole

both_none : (o : Option Rect) → both o None ≡ o
both_none None = refl
both_none (Some r) = refl

module _ (offset : ℕ → Point) (transforms : List (ℕ × TransformNode)) (nodes : List (ℕ × ClipNode)) where
  pub clipped_none : (start : ℕ) → Clipped offset transforms nodes (clip_of offset transforms nodes start) start None
  clipped_none start = record { sound = tt; value = both_none (clip_of offset transforms nodes start) }

  module _ (whole : Option Rect) (id : ℕ) (inner : Option Rect) (w : Clipped offset transforms nodes whole id inner) where
    pub clipped_all : find id nodes ≡ None → inner ≡ whole
    clipped_all h = ap (λ (o : Option Rect). both o inner) (sym (clip_unknown offset transforms nodes id h)) ∙ w.value

    pub clipped_step : (j : AreClips nodes) (n : ClipNode) → find id nodes ≡ Some n → (by : Point) (narrow : Rect) → by ≡ translation offset transforms n.transform
        → Some narrow ≡ both (Some (shifted n.rect by)) inner → IsSound narrow → Clipped offset transforms nodes whole n.parent (Some narrow)
    clipped_step j n h by narrow f own s = record {
      sound = s;
      value =
          ap (both (clip_of offset transforms nodes n.parent)) own
          ∙ (sym (both_assoc (clip_of offset transforms nodes n.parent) (Some (shifted n.rect by)) inner)
          ∙ (ap (λ (p : Point). both (both (clip_of offset transforms nodes n.parent) (Some (shifted n.rect p))) inner) f
          ∙ (ap (λ (o : Option Rect). both o inner) (sym (clip_law offset transforms nodes j id n h)) ∙ w.value)));
    }

-- a clip's rect that is moved by a translation is sound
pub shifted_sound : (r : Rect) (by : Point) → IsClipRect r → IsWithin (256 * 1114112) by → IsSound (shifted r by)
shifted_sound r by i w = record {
  across = record {
    from_low = omega (arith, ints, i.across.low, w.left);
    from_high = omega (arith, ints, i.across.high, w.right);
    length_low = i.width.low;
    length_high = omega (arith, ints, i.width.high);
  };
  down = record {
    from_low = omega (arith, ints, i.down.low, w.upper);
    from_high = omega (arith, ints, i.down.high, w.lower);
    length_low = i.height.low;
    length_high = omega (arith, ints, i.height.high);
  };
}
