-- The passes that layers in nested groups make.
use Rattle.std.specs.Prelude.{◌≡◌, ℕ, ℤ, true, List, [], ◌∷◌, ◌++◌, length, map, All}
use Rattle.geom.specs.declared.rect.Rect.{Rect}
use Rattle.geom.specs.Covers.{covers}
use Rattle.pixel.specs.Colours.{Parts, blend, clear}
use Rattle.page_layers.specs.Painting.{folded, items_at}
use Rattle.viz_scene.specs.Views.{QuadView, quads_view}
use Rattle.viz_scene.specs.Pixels.{quads_over, passes_at}
use Rattle.viz_scene.specs.Sound.{QuadFits, AreSound}
use Rattle.viz_quads.specs.declared.parts.LayerParts.{LayerParts}
use Rattle.viz_quads.specs.inner.Joins.{ActAs}

-- the groups that a layer lies in, the outermost first, and its own quads
abbrev pub groups_of : LayerParts → List ℕ
groups_of l = map (λ g. g.effect) l.groups.items

abbrev pub own_quads : LayerParts → List QuadView
own_quads l = quads_view l.quads.items

-- what the quads of a layer show at a point
abbrev pub own_colour : ℤ → ℤ → LayerParts → Parts
own_colour x y l = quads_over [] x y clear (own_quads l)

-- at each point of the view the quads are laid over what stands below as the one colour that they show, whatever the passes
abbrev pub ActAsOne : Rect → List QuadView → Type 0
ActAsOne view qs = (passes : List Parts) (x y : ℤ) (below : Parts) → covers view x y ≡ true → quads_over passes x y below qs ≡ blend below (quads_over [] x y clear qs)

-- a layer whose quads may stand in any pass, and act as one
pub record IsLayer (w h : ℕ) (view : Rect) (l : LayerParts) : Type 0 where
  pub acts : ActAsOne view (own_quads l)
  pub fit : All (QuadFits w h 0) (own_quads l)

-- the quads of each layer act as these
abbrev pub HaveQuads : List (List QuadView) → List LayerParts → Type 0
HaveQuads [] [] = Unit {0}
HaveQuads [] (l ∷ ls) = ⊥
HaveQuads (qs ∷ more) [] = ⊥
HaveQuads (qs ∷ more) (l ∷ ls) = ActAs (own_quads l) qs × HaveQuads more ls

-- each group of each layer has the opacity of its effect
abbrev pub HaveOpacities : (ℕ → ℕ) → List LayerParts → Type 0
HaveOpacities opacity layers = All (λ l. All (λ g. opacity g.effect ≡ g.opacity) l.groups.items) layers

-- some quads, and passes after those that were there, show the layers from a depth of their groups on
pub record AreBuilt (w h : ℕ) (view : Rect) (depth : ℕ) (layers : List LayerParts) (old new : List (List QuadView)) (quads : List QuadView) : Type 0 where
  pub added : List (List QuadView)
  pub grown : new ≡ old ++ added
  pub sound : AreSound w h (length old) added
  pub fit : All (QuadFits w h (length new)) quads
  pub painted : (opacity : ℕ → ℕ) → HaveOpacities opacity layers → (x y : ℤ) → covers view x y ≡ true → (below : Parts)
      → quads_over (passes_at x y [] new) x y below quads ≡ folded opacity (items_at groups_of (own_colour x y) depth layers) below
