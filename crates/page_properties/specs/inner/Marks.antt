-- Marks at the places of effects.
use Rattle.std.specs.Prelude.{ℕ, Bool, false, List, Option, Some, None, slice_index_or}
use Rattle.page_properties.specs.declared.nodes.EffectNode.{EffectNode}
use Rattle.page_properties.specs.Entries.{ids}
use Rattle.page_properties.specs.inner.Index.{place_of}

abbrev pub mark_at : List Bool → Option ℕ → Bool
mark_at marks None = false
mark_at marks (Some p) = slice_index_or marks p false

-- whether the effect is marked; an unknown one is not
unfoldable pub marked : List (ℕ × EffectNode) → List Bool → ℕ → Bool
marked nodes marks id = mark_at marks (place_of id (ids nodes))
