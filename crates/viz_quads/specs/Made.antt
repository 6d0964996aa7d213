-- The tiles of a page, all made.
use Rattle.std.specs.Prelude.{ℕ, Some, List, map, flat_map}
use Rattle.geom.specs.declared.rect.Point.{Point}
use Rattle.geom.specs.declared.tile.Place.{Place}
use Rattle.geom.specs.Grids.{rect_of_place}
use Rattle.page_layers.specs.Layers.{PageLayer}
use Rattle.page_layers.specs.Pages.{Page}
use Rattle.tile_visible.specs.Visible.{grid_of, visible_places, by_id, key_at}
use Rattle.viz_quads.specs.ShownTiles.{PageTile}

-- the tile of a place, with what its layer shows there; its stamp is 0
abbrev pub made_tile : Page → PageLayer → Place → PageTile
made_tile p l place = record {
  key = key_at (λ _ _. 0) l.id place;
  image = Some (record { key = key_at (λ _ _. 0) l.id place; rect = rect_of_place (grid_of p l) place; list = l.items });
}

-- those of the visible places of a layer
abbrev pub made_of : Page → (ℕ → Point) → PageLayer → List PageTile
made_of p offset l = map (made_tile p l) (visible_places p offset l)

-- those of all layers, in key order
abbrev pub all_made : Page → (ℕ → Point) → List PageTile
all_made p offset = flat_map (made_of p offset) (by_id p.layers)
