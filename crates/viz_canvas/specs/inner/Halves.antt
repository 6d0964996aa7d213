-- An area of a band, cut between two rows.
use Rattle.std.specs.Prelude.{ℕ, ◌+◌, ◌-◌}
use Rattle.pixel.specs.declared.surface.Area.{Area}
use Rattle.viz_canvas.specs.declared.band.Band.{Band}
use Rattle.viz_canvas.specs.declared.band.BandArea.{BandArea}

-- the first rows of an area, in a band that ends with them
abbrev pub upper_place : Band → Area → ℕ → BandArea
upper_place band at rows = record {
  band = record { top = band.top; rows = at.y + rows; across = band.across };
  at = record { x = at.x; y = at.y; w = at.w; h = rows };
}

-- the rows of an area after the first, in a band that begins with them
abbrev pub lower_place : Band → Area → ℕ → BandArea
lower_place band at rows = record {
  band = record { top = band.top + (at.y + rows); rows = band.rows - (at.y + rows); across = band.across };
  at = record { x = at.x; y = 0; w = at.w; h = at.h - rows };
}
