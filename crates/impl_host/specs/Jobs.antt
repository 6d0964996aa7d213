-- The job of a key in a page.
use Rattle.std.specs.Prelude.{cond, Option, Some, None, option_map}
use Rattle.std.specs.List.{find}
use Rattle.geom.specs.declared.rect.Rect.{Rect}
use Rattle.geom.specs.declared.tile.TileKey.{TileKey}
use Rattle.geom.specs.Grids.{has, rect_of_place}
use Rattle.tile_raster.specs.Images.{Image}
use Rattle.tile_raster.specs.declared.job.Job.{Job}
use Rattle.page_layers.specs.Layers.{PageLayer, has_id}
use Rattle.page_layers.specs.Pages.{Page}
use Rattle.tile_visible.specs.Visible.{grid_of}
use Rattle.model_history.specs.Ranking.{place_named}

-- the picture that a job makes
abbrev pub made_by : Job → Image
made_by job = record { key = job.key; rect = job.rect; list = job.list.value }

-- the rect of the place that a key names in a layer, if the layer has that place
abbrev pub key_rect_in : Page → TileKey → PageLayer → Option Rect
key_rect_in p q l = cond (has (grid_of p l) (place_named q)) (Some (rect_of_place (grid_of p l) (place_named q))) None

-- the picture of what a layer shows on that rect
abbrev pub picture_in : Page → TileKey → PageLayer → Option Image
picture_in p q l = option_map (λ r. record { key = q; rect = r; list = l.items }) (key_rect_in p q l)

-- the same of a layer that may be missing
abbrev pub picture_on : Page → TileKey → Option PageLayer → Option Image
picture_on p q None = None
picture_on p q (Some l) = picture_in p q l

-- what makes the tile of a key in a page: its layer's list on the rect of its place; none if the page has no such place
abbrev pub job_in : Page → TileKey → Option Image
job_in p q = picture_on p q (find (has_id q.layer) p.layers)
