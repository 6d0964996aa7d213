-- What a point's painting reads of a layer.
use Rattle.std.specs.Prelude.{ℕ, ◌≡◌, List, All, map}
use Rattle.pixel.specs.Colours.{Parts}
use Rattle.page_layers.specs.declared.paint.LayerSample.{LayerSample}

-- the effects below 255 that the layer lies in, the outermost first
abbrev pub groups_of : LayerSample → List ℕ
groups_of s = map (λ g. g.effect) s.groups.items

-- the layer's colour at the point
abbrev pub colour_of : LayerSample → Parts
colour_of s = s.colour

-- each group of each layer has the opacity of its effect
abbrev pub HaveOpacities : (ℕ → ℕ) → List LayerSample → Type 0
HaveOpacities opacity samples = All (λ s. All (λ g. opacity g.effect ≡ g.opacity) s.groups.items) samples
