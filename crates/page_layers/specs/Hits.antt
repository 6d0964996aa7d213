-- Which layer a screen point hits, and which scrollers take a scroll there.
use Rattle.std.specs.Prelude.{ℕ, ℤ, ◌≡◌, ◌⊎◌, ◌==◌, Bool, true, cond, ◌&&◌, None, List, [], ◌∷◌, ◌++◌, find}
use Rattle.geom.specs.declared.rect.Point.{Point}
use Rattle.geom.specs.Covers.{covers}
use Rattle.page_properties.specs.declared.nodes.ScrollNode.{ScrollNode}
use Rattle.page_properties.specs.declared.nodes.TransformNode.{TransformNode}
use Rattle.page_properties.specs.Entries.{gathered}
use Rattle.page_properties.specs.Placement.{draws}
use Rattle.page_layers.specs.Layers.{PageLayer}
use Rattle.page_layers.specs.Pages.{Page, viewport}
use Rattle.page_layers.specs.TreePainting.{lies_at}

-- whether a layer covers a screen point: the point is inside the viewport, the layer lies there, and no effect in its chain is 0
abbrev pub covers_point : Page → (ℕ → Point) → ℤ → ℤ → PageLayer → Bool
covers_point p offset x y l = covers (viewport p) x y && lies_at p offset x y l && draws p.props.effects l.effect

-- the last layer of the list that covers the point; 0 if none does
abbrev pub last_covering : (PageLayer → Bool) → List PageLayer → ℕ
last_covering p [] = 0
last_covering p (l ∷ ls) = cond (last_covering p ls == 0) (cond (p l) l.id 0) (last_covering p ls)

-- the layer that a scroll at a point is for: the topmost that covers it, whatever it shows there; 0 if none does
unfoldable pub target : Page → (ℕ → Point) → ℤ → ℤ → ℕ
target p offset x y = last_covering (covers_point p offset x y) p.layers

-- no layer passes the test, and 0 is the answer; or a layer of this id passes, and none above it does
abbrev pub IsTopmost : (PageLayer → Bool) → List PageLayer → ℕ → Type 0
IsTopmost p layers id =
    ((id ≡ 0) × (find p layers ≡ None))
    ⊎ ((below : List PageLayer) × (l : PageLayer) × (above : List PageLayer) × (below ++ l ∷ above ≡ layers) × (l.id ≡ id) × (p l ≡ true) × (find p above ≡ None))

-- the scroller of the nearest transform that names one, from this one up to the root; 0 if none does
abbrev pub nearest_scroller : List (ℕ × TransformNode) → ℕ → ℕ
nearest_scroller nodes id = gathered (λ n. n.parent) 0 (λ e above. cond (e.1.scroller == 0) above e.1.scroller) nodes id

-- a scroller and its parents up to the root
abbrev pub scrollers_from : List (ℕ × ScrollNode) → ℕ → List ℕ
scrollers_from nodes id = gathered (λ n. n.parent) [] (λ e above. e.0 ∷ above) nodes id

-- the chain of a layer, the scrollers that take a scroll over it, the nearest first: the one that the nearest transform names, from the layer's up to the root, then its parents; empty if no transform names one
unfoldable pub chain : Page → PageLayer → List ℕ
chain p l = scrollers_from p.props.scrollers (nearest_scroller p.props.transforms l.transform)
