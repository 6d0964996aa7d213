-- A layer of a page with the stamps of its places is seen as one.
use Rattle.std.proofs.Common.{◌≡◌, ℕ, refl}
use Rattle.geom.specs.declared.rect.Point.{Point}
use Rattle.tile_tiling.specs.Tiles.{Tiled}
use Rattle.page_layers.specs.Layers.{PageLayer}
use Rattle.page_layers.specs.Pages.{Page}
use Rattle.impl_ranks.specs.SeenTrees.{SeenLayerModel, IsSeenIn}
use Rattle.impl_ranks.specs.inner.Stamped.{stamped}

pub stamped_seen : (p : Page) (offset : ℕ → Point) (l : PageLayer) (u : Tiled) → IsSeenIn p offset l (stamped p offset l u)
stamped_seen p offset l u = record { id = refl; grid = refl; by = refl; clip = refl; draws = refl }

-- and nothing else is
pub seen_is : (p : Page) (offset : ℕ → Point) (l : PageLayer) (u : Tiled) (v : SeenLayerModel) → IsSeenIn p offset l v → v.stamps ≡ u → v ≡ stamped p offset l u
seen_is p offset l u v is e = λ i. record { id = is.id i; grid = is.grid i; by = is.by i; clip = is.clip i; draws = is.draws i; stamps = e i }
