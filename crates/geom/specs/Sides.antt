-- What contracts see of a grid.
use Rattle.std.specs.Prelude.{ℕ, ◌≤◌}
use Rattle.geom.specs.Limits.{max_side}

-- a layer's width and height, and the side of the tiles that it is cut into
pub record Sides : Type 0 where
  pub w : ℕ
  pub h : ℕ
  pub tile : ℕ

-- a length of 1 to 16384 pixels
pub record IsLayerSide (n : ℕ) : Type 0 where
  pub low : 1 ≤ n
  pub high : n ≤ max_side

-- what every grid keeps
pub record IsGrid (g : Sides) : Type 0 where
  pub wide : IsLayerSide g.w
  pub tall : IsLayerSide g.h
  pub cut : IsLayerSide g.tile
