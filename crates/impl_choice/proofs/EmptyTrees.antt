-- A tree with no layer.
use Rattle.std.proofs.Common.{◌≡◌, List, [], flat_map, map, ap}
use Rattle.page_layers.specs.Layers.{PageLayer}
use Rattle.tile_visible.specs.Visible.{by_id, key_at, visible_places, visible_keys}
use Rattle.model_history.specs.Tiles.{Tree, visible_in}

-- it shows nothing
pub shows_nothing : (t : Tree) → t.page.layers ≡ [] → visible_in t ≡ []
unfolding visible_keys
shows_nothing t none = ap (λ (ls : List PageLayer). flat_map (λ l. map (key_at t.stamp l.id) (visible_places t.page t.offset l)) (by_id ls)) none
