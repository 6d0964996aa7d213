-- The test of what a commit needs to follow the last pushed tree.
use Rattle.std.specs.Prelude.{ℕ, Bool, true, false, ◌==◌, ◌&&◌, ◌||◌, Option, None, Some, List}
use Rattle.std.specs.List.{list_all}
use Rattle.region.specs.Lists.{Changed, is_listed_whole}
use Rattle.page_layers.specs.Layers.{PageLayer}
use Rattle.page_layers.specs.Pages.{Page}
use Rattle.impl_host.specs.Trees.{TreeModel, last_size}

-- whether this is the size of the layer
abbrev pub has_size : PageLayer → Option (ℕ × ℕ) → Bool
has_size l None = false
has_size l (Some s) = (l.w == s.0) && (l.h == s.1)

-- whether the layer is listed as changed whole, or stands in the last pushed tree with its size
abbrev pub is_kept : Option TreeModel → Changed → PageLayer → Bool
is_kept last d l = is_listed_whole d.list l.id || has_size l (last_size last l.id)

-- whether all layers are so
abbrev pub are_kept : Option TreeModel → Changed → List PageLayer → Bool
are_kept last d layers = list_all (is_kept last d) layers

-- whether the commit retiles, or the last pushed tree, if there is one, has the tile size of the page
abbrev pub has_tile : Option TreeModel → Page → Changed → Bool
has_tile None p d = true
has_tile (Some t) p d = d.retiled || (t.page.view.tile == p.view.tile)
