-- The stamps of tiles: the last commit that changed what a place shows.
use Rattle.std.specs.Prelude.{ℕ, zero, suc, ◌==◌, nat_lt, false, cond, ◌||◌, List, [], ◌∷◌, ◌++◌, unwrap_or, option_map, Option, find}
use Rattle.geom.specs.declared.rect.Rect.{Rect}
use Rattle.geom.specs.declared.tile.Place.{Place}
use Rattle.geom.specs.Common.{empty_rect}
use Rattle.geom.specs.Grids.{rect_of_place}
use Rattle.region.specs.declared.change.LayerChange.{LayerChange}
use Rattle.region.specs.Lists.{Changed, without_layer}
use Rattle.tile_tiling.specs.Stamps.{Commit, stamp_of}
use Rattle.page_layers.specs.declared.command.Command.{Command}
use Rattle.page_layers.specs.declared.command.Command.TheVariants as command
use Rattle.page_layers.specs.Layers.{PageLayer, has_id}
use Rattle.page_layers.specs.Pages.{Page}
use Rattle.page_layers.specs.Effects.{Change, page_after_command, layer_change_of, retiles}
use Rattle.page_layers.specs.declared.moves.Move.{Move}
use Rattle.model_history.specs.Scripts.{ScriptModel}
use Rattle.tile_visible.specs.Visible.{grid_of}
use Rattle.model_history.specs.Frames.{commands_of, page, page_before}

-- a change of a layer after an earlier one of the same layer, whole if one of the two is, with the rects of both; and one that has none before it
abbrev pub with_later : LayerChange → Change → LayerChange
with_later before c = record { layer = before.layer; whole = before.whole || c.whole; region = before.region ++ c.rects }

abbrev pub alone : Change → LayerChange
alone c = record { layer = c.layer; whole = c.whole; region = c.rects }

-- a list of changes, one a layer by rising id, with one change more; and the same if there is a change
abbrev pub with_change : Change → List LayerChange → List LayerChange
with_change c [] = alone c ∷ []
with_change c (d ∷ ds) = cond (d.layer == c.layer) (with_later d c ∷ ds) (cond (nat_lt d.layer c.layer) (d ∷ with_change c ds) (alone c ∷ d ∷ ds))

abbrev pub with_some : Option Change → List LayerChange → List LayerChange
with_some change ds = unwrap_or (option_map (λ c. with_change c ds) change) ds

-- the changes of some commands with those of one more, which acts on this page; a layer that it removes is no longer listed
abbrev pub with_command : Page → Command → List LayerChange → List LayerChange
with_command p (command.RemoveLayer c) ds = without_layer c.id ds
with_command p c ds = with_some (layer_change_of p c) ds

-- the changes of these commands in order, each on the page that those before it left, after earlier changes; and whether one retiled
abbrev pub changed_by : Page → List Command → Changed → Changed
changed_by p [] done = done
changed_by p (c ∷ cs) done = changed_by (page_after_command p c) cs (record { list = with_command p c done.list; retiled = done.retiled || retiles p c })

-- what the commands of main frame k changed, from nothing on
abbrev pub unchanged : Changed
unchanged = record { list = []; retiled = false }

abbrev pub frame_changes : ScriptModel → (ℕ → List Move) → ℕ → Changed
frame_changes s ps k = changed_by (page_before s ps k) (commands_of s k) unchanged

-- the first n frames with what they changed, the latest first; one that was aborted has no commands and changed nothing
abbrev pub commits_to : ScriptModel → (ℕ → List Move) → ℕ → List Commit
commits_to s ps zero = []
commits_to s ps (suc k) = record { frame = k; changed = frame_changes s ps k } ∷ commits_to s ps k

-- the rect of a place of a layer, if the page has the layer
abbrev pub place_rect : Page → Place → Option PageLayer → Rect
place_rect p place layer = unwrap_or (option_map (λ l. rect_of_place (grid_of p l) place) layer) empty_rect

-- the stamp of a place of a layer in page n: the last of the first n frames that changed what the place shows or retiled, 0 if none did
unfoldable pub stamp_in : ScriptModel → (ℕ → List Move) → ℕ → ℕ → Place → ℕ
stamp_in s ps n layer place =
    unwrap_or (stamp_of layer (place_rect (page s ps n) place (find (has_id layer) (page s ps n).layers)) (commits_to s ps n)) 0
