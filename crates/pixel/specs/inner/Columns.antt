-- Columns of an area.
use Rattle.std.specs.Prelude.{ℕ, ◌+◌}
use Rattle.pixel.specs.declared.surface.Area.{Area}

-- `n` columns of an area, from its column `first` on
abbrev pub columns_of : Area → ℕ → ℕ → Area
columns_of at first n = record { x = at.x + first; y = at.y; w = n; h = at.h }
