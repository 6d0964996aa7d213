-- What it means that a display list shows a tile.
use Rattle.std.specs.Prelude.{◌≡◌, ℕ, ℤ, true, List, Some}
use Rattle.geom.specs.declared.rect.Rect.{Rect}
use Rattle.geom.specs.declared.tile.TileKey.{TileKey}
use Rattle.geom.specs.Covers.{covers}
use Rattle.page_display_list.specs.declared.item.Item.{Item}
use Rattle.page_display_list.specs.Content.{content}
use Rattle.page_layers.specs.Contents.{content_at}
use Rattle.page_layers.specs.declared.moves.Move.{Move}
use Rattle.model_history.specs.Scripts.{ScriptModel}
use Rattle.model_history.specs.Frames.{page}
use Rattle.model_history.specs.Sharing.{has_page_key, key_rect}

-- in each page of the script that has the key, whatever was pulled, its place has this rect, and its layer shows there what the list shows
pub record KeyShows (s : ScriptModel) (q : TileKey) (r : Rect) (list : List Item) : Type 0 where
  pub rect : (ps : ℕ → List Move) (n : ℕ) → has_page_key s ps n q ≡ true → key_rect (page s ps n) q ≡ r
  pub content : (ps : ℕ → List Move) (n : ℕ) → has_page_key s ps n q ≡ true → (x y : ℤ) → covers r x y ≡ true → content_at (page s ps n) q.layer x y ≡ Some (content list x y)
