-- A layer's own list shows the tiles of its page.
use Rattle.std.proofs.Common.{◌≡◌, ℕ, true, List, Option, Some, option_map, ◌∙◌, ap}
use Rattle.geom.specs.declared.tile.TileKey.{TileKey}
use Rattle.page_display_list.specs.Content.{content}
use Rattle.page_layers.specs.Layers.{PageLayer, has_id}
use Rattle.page_layers.specs.declared.moves.Move.{Move}
use Rattle.std.specs.Prelude.{find}
use Rattle.model_history.specs.Scripts.{ScriptModel}
use Rattle.model_history.specs.Frames.{page}
use Rattle.model_history.specs.Accepted.{IsPlayable}
use Rattle.model_history.specs.Sharing.{has_page_key, key_rect}
use Rattle.model_history.proofs.SharedPages.{same_pages}
use Rattle.model_steps.specs.ShownKeys.{KeyShows}

pub layer_shows : (s : ScriptModel) (ps : ℕ → List Move) (n : ℕ) (q : TileKey) (l : PageLayer) → IsPlayable s → has_page_key s ps n q ≡ true
    → find (has_id q.layer) (page s ps n).layers ≡ Some l → KeyShows s q (key_rect (page s ps n) q) l.items
layer_shows s ps n q l a has is = record {
  rect = λ qs m t. (same_pages s ps qs n m q a has t).rect;
  content = λ qs m t x y c. (same_pages s ps qs n m q a has t).content x y c ∙ ap (λ (o : Option PageLayer). option_map (λ k. content k.items x y) o) is;
}
