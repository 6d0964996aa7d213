-- Points of the screen: inside the viewport of a page, and the bounds of a layer.
use Rattle.std.specs.Prelude.{ℕ, ℤ, pos, Bool}
use Rattle.geom.specs.declared.rect.Point.{Point}
use Rattle.geom.specs.Covers.{covers}
use Rattle.page_layers.specs.Layers.{PageLayer}
use Rattle.page_layers.specs.TreePainting.{point_in}
use Rattle.page_layers.specs.Pages.{Page}

-- a point is inside the viewport of a page
abbrev pub is_in_view : Page → ℤ → ℤ → Bool
is_in_view p x y = covers (record { x = pos 0; y = pos 0; w = pos p.view.w; h = pos p.view.h }) x y

-- the point, moved back, is inside the bounds of a layer
abbrev pub is_within_bounds : Page → (ℕ → Point) → ℤ → ℤ → PageLayer → Bool
is_within_bounds p offset x y l = covers (record { x = pos 0; y = pos 0; w = pos l.w; h = pos l.h }) (point_in p offset l x y).x (point_in p offset l x y).y
