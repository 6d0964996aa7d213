-- How large the images of a recording are: as the view of the main frame that was activated last.
use Rattle.std.specs.Prelude.{ℕ, List, [], ◌∷◌, slice_index_or, Option, Some, None}
use Rattle.page_layers.specs.declared.command.Command.{Command}
use Rattle.page_layers.specs.declared.command.Command.TheVariants as command
use Rattle.page_layers.specs.declared.view.View.{View}
use Rattle.model_history.specs.Scripts.{ScriptModel}

-- the view after a command: `set_view` alone changes it
abbrev pub view_after : View → Command → View
view_after v (command.SetView c) = record { w = c.w; h = c.h; tile = c.tile }
view_after v _ = v

-- the view after these commands
abbrev pub view_through : View → List Command → View
view_through v [] = v
view_through v (c ∷ cs) = view_through (view_after v c) cs

-- the view after each of these main frames
abbrev pub views_through : View → List (List Command) → List View
views_through v [] = []
views_through v (f ∷ fs) = view_through v f ∷ views_through (view_through v f) fs

-- the view that a script begins with
abbrev pub first_view : ScriptModel → View
first_view s = record { w = s.viewport_w; h = s.viewport_h; tile = s.tile }

-- the view that a script begins with, and those after its main frames
pub record ViewTable : Type 0 where
  pub first : View
  pub after : List View

unfoldable pub views_of : ScriptModel → ViewTable
views_of s = record { first = first_view s; after = views_through (first_view s) s.main }

-- the view while a main frame is the one that was activated last: the one after it; before every activation, and if there is no such frame, the one that the script begins with; only `set_view` changes it
abbrev pub view_at : ViewTable → Option ℕ → View
view_at t None = t.first
view_at t (Some frame) = slice_index_or t.after frame t.first
