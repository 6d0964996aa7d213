-- A layer with the stamps of its places, as its tiles are seen.
use Rattle.std.specs.Prelude.{ℕ}
use Rattle.geom.specs.declared.rect.Point.{Point}
use Rattle.page_properties.specs.Placement.{translation, clip_of, draws}
use Rattle.page_layers.specs.Layers.{PageLayer}
use Rattle.page_layers.specs.Pages.{Page, viewport}
use Rattle.tile_tiling.specs.Tiles.{Tiled}
use Rattle.tile_visible.specs.Visible.{grid_of, cut_by}
use Rattle.impl_ranks.specs.SeenTrees.{SeenLayerModel}

-- a layer of a page at these offsets, with these stamps
abbrev pub stamped : Page → (ℕ → Point) → PageLayer → Tiled → SeenLayerModel
stamped p offset l u = record {
  id = l.id;
  grid = grid_of p l;
  by = translation offset p.props.transforms l.transform;
  clip = cut_by (viewport p) (clip_of offset p.props.transforms p.props.clips l.clip);
  draws = draws p.props.effects l.effect;
  stamps = u;
}
