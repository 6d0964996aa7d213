-- What it means that pages share a tile, and that a tile was there before.
use Rattle.std.specs.Prelude.{◌≡◌, ℕ, ℤ, Bool, true, ◌||◌, List, [], ◌∷◌, find}
use Rattle.geom.specs.declared.rect.Rect.{Rect}
use Rattle.geom.specs.declared.tile.TileKey.{TileKey}
use Rattle.geom.specs.Covers.{covers}
use Rattle.page_layers.specs.Layers.{has_id}
use Rattle.page_layers.specs.Pages.{Page}
use Rattle.page_layers.specs.Contents.{content_at}
use Rattle.page_layers.specs.declared.moves.Move.{Move}
use Rattle.model_history.specs.declared.history.Entry.{Entry}
use Rattle.model_history.specs.Scripts.{ScriptModel}
use Rattle.model_history.specs.Frames.{page}
use Rattle.model_history.specs.Stamps.{place_rect, stamp_in}
use Rattle.geom.specs.KeyLists.{has_key}
use Rattle.model_history.specs.Tiles.{page_keys, live_keys}
use Rattle.model_history.specs.Ranking.{place_named}

-- the key is one of page n of a script, with these pulls
abbrev pub has_page_key : ScriptModel → (ℕ → List Move) → ℕ → TileKey → Bool
has_page_key s ps n q = has_key (page_keys (page s ps n) (stamp_in s ps n)) q

-- the rect of a key's place in its layer; it covers nothing if the page lacks the layer
abbrev pub key_rect : Page → TileKey → Rect
key_rect p q = place_rect p (place_named q) (find (has_id q.layer) p.layers)

-- two pages show the same in a tile: its place has one rect in both, and the layer's content is the same at each point of it
pub record HaveSameContent (q : TileKey) (p r : Page) : Type 0 where
  pub rect : key_rect r q ≡ key_rect p q
  pub content : (x y : ℤ) → covers (key_rect p q) x y ≡ true → content_at r q.layer x y ≡ content_at p q.layer x y

-- the key is live after this past, or was after an earlier one
abbrev pub was_live : ScriptModel → List Entry → TileKey → Bool
was_live s [] q = has_key (live_keys s []) q
was_live s (e ∷ h) q = has_key (live_keys s (e ∷ h)) q || was_live s h q
