-- How a tiling keeps its stamps: while no part of the layer has changed apart from the rest, one stamp stands for all.
use Rattle.std.specs.Prelude.{◌≤◌, ℕ, ◌*◌, List, [], ◌∷◌, replicate}
use Rattle.geom.specs.Sides.{Sides}
use Rattle.geom.specs.Grids.{tiles}
use Rattle.tile_tiling.specs.Tiles.{IsWhole}

-- the stamps of all places, of those that are kept: with none kept the base is the stamp of each place
abbrev pub stamps_of : Sides → ℕ → List ℕ → List ℕ
stamps_of g base [] = replicate (tiles g.w g.tile * tiles g.h g.tile) base
stamps_of g base (s ∷ stamps) = s ∷ stamps

-- with none kept there is room for all, else there is one for each place
abbrev pub IsKept : Sides → List ℕ → ℕ → Type 0
IsKept g [] room = tiles g.w g.tile * tiles g.h g.tile ≤ room
IsKept g (s ∷ stamps) room = IsWhole g (s ∷ stamps)
