-- Which kept tiles the changes of a command may show in.
use Rattle.std.specs.Prelude.{ℕ, ◌==◌, Bool, true, false, not, ◌&&◌, ◌||◌, Option, None, Some, List, slice_get}
use Rattle.geom.specs.declared.rect.Rect.{Rect}
use Rattle.region.specs.declared.change.LayerChange.{LayerChange}
use Rattle.region.specs.Lists.{Changed}
use Rattle.region.specs.Points.{touched}
use Rattle.page_layers.specs.Pages.{Page}
use Rattle.page_layers.specs.Refusals.{has_layer}
use Rattle.cc.specs.declared.kept_tile.KeptTile.{KeptTile}

-- the change of a layer shows in a rect of a layer
abbrev pub shows_in : ℕ → Rect → LayerChange → Bool
shows_in layer r c = (c.layer == layer) && (c.whole || touched c.region r)

-- a change does, if there is one
abbrev pub one_shows : ℕ → Rect → Option LayerChange → Bool
one_shows layer r None = false
one_shows layer r (Some c) = shows_in layer r c

-- the first of some changes does
abbrev pub shows : ℕ → Rect → List LayerChange → Bool
shows layer r cs = one_shows layer r (slice_get cs 0)

-- the page after these changes may show something else in the place of a kept tile
abbrev pub is_touched : Page → Changed → KeptTile → Bool
is_touched p changes k = (changes.retiled || not (has_layer k.key.layer p.layers)) || shows k.key.layer k.image.value.rect changes.list

-- a tile that is marked if it is touched
abbrev pub marked : Page → Changed → KeptTile → KeptTile
marked q changes k = record k { is_stale = k.is_stale || is_touched q changes k }

-- a tile that is marked whatever was changed
abbrev pub made_stale : KeptTile → KeptTile
made_stale k = record k { is_stale = true }
