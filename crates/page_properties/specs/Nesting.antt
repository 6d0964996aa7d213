-- Layers that stand together.
use Rattle.std.specs.Prelude.{ℕ, ◌==◌, ◌<◌, ◌≤◌, Bool, true, false, ◌||◌, ◌≡◌, List, length, slice_index}
use Rattle.page_properties.specs.declared.nodes.EffectNode.{EffectNode}
use Rattle.page_properties.specs.Entries.{gathered}

-- the effect `id` is `above` or below it
unfoldable pub lies_in : List (ℕ × EffectNode) → ℕ → ℕ → Bool
lies_in nodes above id = gathered (λ n. n.parent) false (λ e t. (e.0 == above) || t) nodes id

-- layers with these effects are nested: between two layers of an effect, counting those below it, stands no other layer; said of places in the list, for every effect
abbrev pub AreNested : List (ℕ × EffectNode) → List ℕ → Type 0
AreNested nodes effects =
    (e i j k : ℕ) → i ≤ j → j ≤ k → k < length effects → lies_in nodes e (slice_index effects i) ≡ true → lies_in nodes e (slice_index effects k) ≡ true
    → lies_in nodes e (slice_index effects j) ≡ true
