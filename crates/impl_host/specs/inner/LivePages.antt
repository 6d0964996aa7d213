-- The tree of the commit of a frame at given offsets, and the page of a run that has a key.
use Rattle.std.specs.Prelude.{◌≡◌, ℕ, true, false, List, Option, Some, None}
use Rattle.geom.specs.declared.rect.Point.{Point}
use Rattle.geom.specs.declared.tile.TileKey.{TileKey}
use Rattle.geom.specs.KeyLists.{has_key}
use Rattle.page_layers.specs.declared.moves.Move.{Move}
use Rattle.page_layers.specs.Pages.{Page}
use Rattle.model_history.specs.declared.history.Entry.{Entry}
use Rattle.model_history.specs.Scripts.{ScriptModel}
use Rattle.model_history.specs.Frames.{page, pulls_of, up_to}
use Rattle.model_history.specs.Sharing.{has_page_key}
use Rattle.model_history.specs.Stamps.{stamp_in}
use Rattle.model_history.specs.Tiles.{Tree, live_keys}

-- the tree of the commit of a frame at these offsets; the blank page if there is no frame
abbrev pub tree_at : ScriptModel → (ℕ → List Move) → Option ℕ → (ℕ → Point) → Tree
tree_at s ps o at = record { page = page s ps (up_to o); offset = at; stamp = stamp_in s ps (up_to o) }

-- page n has the key, and it is this one; or there is none
abbrev pub HasPageKey : ScriptModel → (ℕ → List Move) → ℕ → TileKey → Option Page → Type 0
HasPageKey s ps n q None = has_page_key s ps n q ≡ false
HasPageKey s ps n q (Some p) = (p ≡ page s ps n) × (has_page_key s ps n q ≡ true)

-- the key is live, and this page of the run has it; or it is not live
abbrev pub HasLivePage : ScriptModel → List Entry → TileKey → Option Page → Type 0
HasLivePage s h q None = has_key (live_keys s h) q ≡ false
HasLivePage s h q (Some p) = (has_key (live_keys s h) q ≡ true) × (n : ℕ) × (p ≡ page s (pulls_of h) n) × (has_page_key s (pulls_of h) n q ≡ true)
