-- The four families of property trees, the ranges of their values, and what all trees keep.
use Rattle.std.specs.Prelude.{ℕ, ◌^◌, ◌≤◌, ℤ, pos, neg_ℤ, ◌≤ℤ◌, List}
use Rattle.geom.specs.declared.rect.Rect.{Rect}
use Rattle.page_properties.specs.declared.nodes.TransformNode.{TransformNode}
use Rattle.page_properties.specs.declared.nodes.ClipNode.{ClipNode}
use Rattle.page_properties.specs.declared.nodes.EffectNode.{EffectNode}
use Rattle.page_properties.specs.declared.nodes.ScrollNode.{ScrollNode}
use Rattle.page_properties.specs.Families.{IsFamily, MayJoin}

-- what contracts see of property trees: each family with its newest node first
pub record Trees : Type 0 where
  pub transforms : List (ℕ × TransformNode)
  pub clips : List (ℕ × ClipNode)
  pub effects : List (ℕ × EffectNode)
  pub scrollers : List (ℕ × ScrollNode)

-- a place of a node, at most 65536 from the origin of its parent
pub record IsNearParent (z : ℤ) : Type 0 where
  pub low : neg_ℤ (pos (2 ^ 16)) ≤ℤ z
  pub high : z ≤ℤ pos (2 ^ 16)

-- a side of a clip's rect
pub record IsExtent (z : ℤ) : Type 0 where
  pub low : pos 0 ≤ℤ z
  pub high : z ≤ℤ pos (2 ^ 16)

-- the ranges of the nodes' values
pub record IsTransform (n : TransformNode) : Type 0 where
  pub across : IsNearParent n.x
  pub down : IsNearParent n.y

pub record IsClipRect (r : Rect) : Type 0 where
  pub across : IsNearParent r.x
  pub down : IsNearParent r.y
  pub width : IsExtent r.w
  pub height : IsExtent r.h

abbrev pub IsClip : ClipNode → Type 0
IsClip n = IsClipRect n.rect

-- any byte is an opacity
abbrev pub IsEffect : EffectNode → Type 0
IsEffect n = Unit {0}

pub record IsRange (n : ScrollNode) : Type 0 where
  pub across : n.max_x ≤ 2 ^ 20
  pub down : n.max_y ≤ 2 ^ 20

-- what an adder asks for, by its family
abbrev pub MayJoinTransforms : ℕ → TransformNode → List (ℕ × TransformNode) → Type 0
MayJoinTransforms = MayJoin (λ n. n.parent) IsTransform

abbrev pub MayJoinClips : ℕ → ClipNode → List (ℕ × ClipNode) → Type 0
MayJoinClips = MayJoin (λ n. n.parent) IsClip

abbrev pub MayJoinEffects : ℕ → EffectNode → List (ℕ × EffectNode) → Type 0
MayJoinEffects = MayJoin (λ n. n.parent) IsEffect

abbrev pub MayJoinScrollers : ℕ → ScrollNode → List (ℕ × ScrollNode) → Type 0
MayJoinScrollers = MayJoin (λ n. n.parent) IsRange

abbrev pub AreTransforms : List (ℕ × TransformNode) → Type 0
AreTransforms = IsFamily (λ n. n.parent) IsTransform

abbrev pub AreClips : List (ℕ × ClipNode) → Type 0
AreClips = IsFamily (λ n. n.parent) IsClip

abbrev pub AreEffects : List (ℕ × EffectNode) → Type 0
AreEffects = IsFamily (λ n. n.parent) IsEffect

abbrev pub AreScrollers : List (ℕ × ScrollNode) → Type 0
AreScrollers = IsFamily (λ n. n.parent) IsRange

-- what all property trees keep
pub record IsTrees (t : Trees) : Type 0 where
  pub transforms : AreTransforms t.transforms
  pub clips : AreClips t.clips
  pub effects : AreEffects t.effects
  pub scrollers : AreScrollers t.scrollers
