-- Layers in their places, with the groups that they are blended in.
use Rattle.std.specs.Prelude.{ℕ, ℤ, ◌≡◌, cond, List, map, All}
use Rattle.geom.specs.declared.rect.Point.{Point}
use Rattle.geom.specs.declared.tile.TileKey.{TileKey}
use Rattle.pixel.specs.Colours.{Parts}
use Rattle.page_layers.specs.declared.paint.Group.{Group}
use Rattle.page_layers.specs.Layers.{PageLayer}
use Rattle.page_layers.specs.Pages.{Page}
use Rattle.page_layers.specs.Paintings.{Placed, Ready, has_place, placed_colour}
use Rattle.page_layers.specs.TreePainting.{groups_in, opacity_in, place_at, layer_colour_at}

-- a layer in its place, and the effects below 255 that it lies in, the outermost first
pub record SheetModel : Type 0 where
  pub placed : Placed
  pub groups : List Group

-- the ids of the groups of a sheet
abbrev pub effects_of : SheetModel → List ℕ
effects_of s = map (λ g. g.effect) s.groups

-- the colour of a sheet at a point of the screen
abbrev pub colour_in : ℕ → ℤ → ℤ → SheetModel → Parts
colour_in tile x y s = placed_colour tile x y s.placed

-- sheets as a page made ready
abbrev pub ready : ℕ → List SheetModel → Ready
ready tile sheets = record { tile = tile; layers = map (λ s. s.placed) sheets; groups = map (λ s. s.groups) sheets }

-- each group of each sheet has the opacity of its effect
abbrev pub HaveOpacities : (ℕ → ℕ) → List SheetModel → Type 0
HaveOpacities opacity sheets = All (λ s. All (λ g. opacity g.effect ≡ g.opacity) s.groups) sheets

-- a sheet is a layer of the page at these offsets, with the tiles of these keys missing
pub record IsSheetOf (p : Page) (offset : ℕ → Point) (missing : List TileKey) (l : PageLayer) (s : SheetModel) : Type 0 where
  pub colours : (x y : ℤ) → colour_in p.view.tile x y s ≡ layer_colour_at p offset missing x y l
  pub groups : effects_of s ≡ groups_in p.props.effects l.effect
  pub opacities : All (λ g. opacity_in p.props.effects g.effect ≡ g.opacity) s.groups

-- the colour of a layer at one of its points, over what its items show there
abbrev pub patched : ℕ → Placed → Point → Parts → Parts
patched tile l q below = cond (has_place l.missing (place_at tile q)) l.colour below
