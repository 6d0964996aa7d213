-- Where nodes are placed: translations, clips, and what is drawn at all.
use Rattle.std.specs.Prelude.{ℕ, ◌==◌, pos, neg_ℤ, ◌+ℤ◌, ◌-ℤ◌, ◌≤ℤ◌, Bool, true, cond, not, ◌&&◌, List, Option, Some, None}
use Rattle.geom.specs.declared.rect.Point.{Point}
use Rattle.geom.specs.declared.rect.Rect.{Rect}
use Rattle.geom.specs.Common.{common}
use Rattle.geom.specs.Gaps.{shifted}
use Rattle.page_properties.specs.declared.nodes.TransformNode.{TransformNode}
use Rattle.page_properties.specs.declared.nodes.ClipNode.{ClipNode}
use Rattle.page_properties.specs.declared.nodes.EffectNode.{EffectNode}
use Rattle.page_properties.specs.Entries.{gathered}
use Rattle.page_properties.specs.OffsetMap.{origin}

-- points added, and taken from each other
abbrev pub plus : Point → Point → Point
plus p q = record { x = p.x +ℤ q.x; y = p.y +ℤ q.y }

abbrev pub minus : Point → Point → Point
minus p q = record { x = p.x -ℤ q.x; y = p.y -ℤ q.y }

-- how far a scroller has moved what it scrolls: not at all if none is named
abbrev pub scrolled : (ℕ → Point) → ℕ → Point
scrolled offset scroller = cond (scroller == 0) origin (offset scroller)

-- a node's own translation: its place, minus the offset of the scroller that it names
abbrev pub own_translation : (ℕ → Point) → TransformNode → Point
own_translation offset n = minus (record { x = n.x; y = n.y }) (scrolled offset n.scroller)

-- the translation of a transform: its parent's plus its own. The root's is the origin
unfoldable pub translation : (ℕ → Point) → List (ℕ × TransformNode) → ℕ → Point
translation offset nodes id = gathered (λ n. n.parent) origin (λ e above. plus above (own_translation offset e.1)) nodes id

-- at most this far from the origin on both axes
pub record IsWithin (most : ℕ) (p : Point) : Type 0 where
  pub left : neg_ℤ (pos most) ≤ℤ p.x
  pub right : p.x ≤ℤ pos most
  pub upper : neg_ℤ (pos most) ≤ℤ p.y
  pub lower : p.y ≤ℤ pos most

-- two restrictions at once; None restricts nothing
abbrev pub both : Option Rect → Option Rect → Option Rect
both None s = s
both (Some r) None = Some r
both (Some r) (Some s) = Some (common r s)

-- a clip's rect, shifted by the translation of its own transform; the clip of a clip node: its parent's and its own rect where it is placed. The root restricts nothing
abbrev pub placed_rect : (ℕ → Point) → List (ℕ × TransformNode) → ClipNode → Rect
placed_rect offset transforms n = shifted n.rect (translation offset transforms n.transform)

unfoldable pub clip_of : (ℕ → Point) → List (ℕ × TransformNode) → List (ℕ × ClipNode) → ℕ → Option Rect
clip_of offset transforms nodes id = gathered (λ n. n.parent) None (λ e above. both above (Some (placed_rect offset transforms e.1))) nodes id

-- an effect is drawn if neither it nor one above it has opacity 0
unfoldable pub draws : List (ℕ × EffectNode) → ℕ → Bool
draws nodes id = gathered (λ n. n.parent) true (λ e above. not (e.1.opacity == 0) && above) nodes id
