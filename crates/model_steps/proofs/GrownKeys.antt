-- What shows a key of one script shows it of another that has a page with the key.
use Rattle.std.proofs.Common.{◌≡◌, ℕ, true, List, ap, ◌∙◌}
use Rattle.geom.specs.declared.rect.Rect.{Rect}
use Rattle.geom.specs.declared.tile.TileKey.{TileKey}
use Rattle.geom.specs.Covers.{covers}
use Rattle.geom.specs.KeyLists.{has_key}
use Rattle.page_display_list.specs.declared.item.Item.{Item}
use Rattle.page_layers.specs.Contents.{content_at}
use Rattle.page_layers.specs.Pages.{Page}
use Rattle.page_layers.specs.declared.moves.Move.{Move}
use Rattle.model_history.specs.Scripts.{ScriptModel}
use Rattle.model_history.specs.Accepted.{IsPlayable}
use Rattle.model_history.specs.Frames.{page}
use Rattle.model_history.specs.Stamps.{stamp_in}
use Rattle.model_history.specs.Sharing.{has_page_key, key_rect}
use Rattle.model_history.specs.Tiles.{page_keys}
use Rattle.model_history.proofs.SharedPages.{same_pages}
use Rattle.model_steps.specs.ShownKeys.{KeyShows}

pub still_shows : (s t : ScriptModel) (ps : ℕ → List Move) (n : ℕ) (q : TileKey) (r : Rect) (list : List Item) → IsPlayable t → page t ps n ≡ page s ps n → stamp_in t ps n ≡ stamp_in s ps n
    → has_page_key s ps n q ≡ true → KeyShows s q r list → KeyShows t q r list
still_shows s t ps n q r list a same_page same_stamps has shows =
    let there : has_page_key t ps n q ≡ true = (λ i. has_key (page_keys (same_page i) (same_stamps i)) q) ∙ has in
    let place : key_rect (page t ps n) q ≡ r = ap (λ (p : Page). key_rect p q) same_page ∙ shows.rect ps n has in
    record {
      rect = λ qs m t_has. (same_pages t ps qs n m q a there t_has).rect ∙ place;
      content = λ qs m t_has x y c.
          (same_pages t ps qs n m q a there t_has).content x y (ap (λ (z : Rect). covers z x y) place ∙ c)
          ∙ (ap (λ (p : Page). content_at p q.layer x y) same_page ∙ shows.content ps n has x y c);
    }
