-- Laws of placement: what is known of a node follows from its parent.
use Rattle.std.specs.Prelude.{ℕ, ◌==◌, true, not, ◌&&◌, ◌||◌, ◌≡◌, Some, None}
use Rattle.geom.specs.declared.rect.Point.{Point}
use Rattle.page_properties.specs.declared.nodes.TransformNode.{TransformNode}
use Rattle.page_properties.specs.declared.nodes.ClipNode.{ClipNode}
use Rattle.page_properties.specs.declared.nodes.EffectNode.{EffectNode}
use Rattle.page_properties.specs.Entries.{find}
use Rattle.page_properties.specs.Nesting.{lies_in}
use Rattle.page_properties.specs.OffsetMap.{origin}
use Rattle.page_properties.specs.Placement.{plus, own_translation, translation, both, placed_rect, clip_of, draws}
use Rattle.page_properties.specs.Trees.{Trees, IsTrees}

-- in all property trees, at all offsets
pub record FollowTheParent : Type 0 where
  pub root_translation : (offset : ℕ → Point) (t : Trees) → IsTrees t → translation offset t.transforms 0 ≡ origin
  pub translation_of : (offset : ℕ → Point) (t : Trees) → IsTrees t → (id : ℕ) (n : TransformNode) → find id t.transforms ≡ Some n
      → translation offset t.transforms id ≡ plus (translation offset t.transforms n.parent) (own_translation offset n)
  pub root_clip : (offset : ℕ → Point) (t : Trees) → IsTrees t → clip_of offset t.transforms t.clips 0 ≡ None
  pub clip : (offset : ℕ → Point) (t : Trees) → IsTrees t → (id : ℕ) (n : ClipNode) → find id t.clips ≡ Some n
      → clip_of offset t.transforms t.clips id ≡ both (clip_of offset t.transforms t.clips n.parent) (Some (placed_rect offset t.transforms n))
  pub root_draws : (t : Trees) → IsTrees t → draws t.effects 0 ≡ true
  pub effect_draws : (t : Trees) → IsTrees t → (id : ℕ) (n : EffectNode) → find id t.effects ≡ Some n
      → draws t.effects id ≡ not (n.opacity == 0) && draws t.effects n.parent
  pub effect_lies : (t : Trees) → IsTrees t → (above id : ℕ) (n : EffectNode) → find id t.effects ≡ Some n
      → lies_in t.effects above id ≡ (id == above) || lies_in t.effects above n.parent
