-- What laying one colour over another comes to at the ends of alpha.
use Rattle.std.specs.Prelude.{◌≡◌}
use Rattle.pixel.specs.Colours.{Parts, blend, clear}

-- a source of alpha 255 hides what lies below it: laid over any colour it is the source
abbrev pub OpaqueHides : Type 0
OpaqueHides = (below source : Parts) → source.a ≡ 255 → blend below source ≡ source

-- the transparent colour, laid over another, leaves it
abbrev pub ClearShows : Type 0
ClearShows = (below : Parts) → blend below clear ≡ below

-- a source over the transparent colour is the source
abbrev pub ClearTakes : Type 0
ClearTakes = (source : Parts) → blend clear source ≡ source
