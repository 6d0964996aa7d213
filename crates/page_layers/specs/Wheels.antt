-- What a wheel at a point of a page does: the layer that it hits, the parts that the scrollers of its chain take, and what they leave.
use Rattle.std.specs.Prelude.{ℕ, ℤ, ◌-ℤ◌, List, [], ◌∷◌, find, option_map, unwrap_or}
use Rattle.geom.specs.declared.rect.Point.{Point}
use Rattle.page_layers.specs.Layers.{PageLayer, has_id}
use Rattle.page_layers.specs.Pages.{Page}
use Rattle.page_layers.specs.Hits.{target, chain}
use Rattle.page_layers.specs.declared.moves.Move.{Move}
use Rattle.page_layers.specs.Axes.{Axis, across, down, along, with_move}
use Rattle.page_layers.specs.Scrollers.{amount_taken}

-- the parts along a chain, where `takes` tells how much of an amount a scroller takes: each takes of what those before it have left; a part of (0, 0) is left out
abbrev pub chain_parts : (ℕ → Axis → ℤ → ℤ) → List ℕ → ℤ → ℤ → List Move
chain_parts takes [] dx dy = []
chain_parts takes (sc ∷ scs) dx dy =
    with_move (record { scroller = sc; dx = takes sc across dx; dy = takes sc down dy }) (chain_parts takes scs (dx -ℤ takes sc across dx) (dy -ℤ takes sc down dy))

-- what the scrollers of a chain leave of an amount
abbrev pub chain_rest : (ℕ → Axis → ℤ → ℤ) → Axis → List ℕ → ℤ → ℤ
chain_rest takes ax [] asked = asked
chain_rest takes ax (sc ∷ scs) asked = chain_rest takes ax scs (asked -ℤ takes sc ax asked)

-- the scrollers that take a wheel over a layer, the nearest first; none if there is no layer
abbrev pub chain_at : Page → ℕ → List ℕ
chain_at p layer = unwrap_or (option_map (chain p) (find (has_id layer) p.layers)) []

-- how much of an amount a scroller takes in a page at these offsets: as much as its range allows
abbrev pub takes_at : Page → (ℕ → Point) → ℕ → Axis → ℤ → ℤ
takes_at p offset = amount_taken p (λ sc ax. along ax (offset sc))

-- what the scrollers under a point take of a wheel, in the order of the chain, without those that take (0, 0); and what they leave of it along an axis
abbrev pub wheel_parts : Page → (ℕ → Point) → ℤ → ℤ → ℤ → ℤ → List Move
wheel_parts p offset x y dx dy = chain_parts (takes_at p offset) (chain_at p (target p offset x y)) dx dy

abbrev pub wheel_rest : Page → (ℕ → Point) → ℤ → ℤ → Axis → ℤ → ℤ
wheel_rest p offset x y ax asked = chain_rest (takes_at p offset) ax (chain_at p (target p offset x y)) asked
