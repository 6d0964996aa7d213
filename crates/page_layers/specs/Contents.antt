-- What the layers of a page show, and where a command may change it.
use Rattle.std.specs.Prelude.{ℕ, ℤ, ◌≡◌, Bool, true, false, ◌==◌, ◌&&◌, ◌||◌, Option, None, Some, option_map, find}
use Rattle.pixel.specs.Colours.{Parts}
use Rattle.region.specs.Points.{covered}
use Rattle.page_display_list.specs.Content.{content}
use Rattle.page_layers.specs.declared.command.Command.{Command}
use Rattle.page_layers.specs.declared.command.Command.TheVariants as command
use Rattle.page_layers.specs.Layers.{has_id}
use Rattle.page_layers.specs.Pages.{Page}
use Rattle.page_layers.specs.Refusals.{has_layer}
use Rattle.page_layers.specs.Effects.{Change, page_after_command, layer_change_of}

-- what the layer with this id shows at one of its points; None if there is no such layer
abbrev pub content_at : Page → ℕ → ℤ → ℤ → Option Parts
content_at p id x y = option_map (λ l. content l.items x y) (find (has_id id) p.layers)

-- the size of the layer with this id; None if there is no such layer
abbrev pub size_of : Page → ℕ → Option (ℕ × ℕ)
size_of p id = option_map (λ l. (l.w, l.h)) (find (has_id id) p.layers)

-- the change of a layer shows at a point: it is of the whole layer, or one of its rects covers the point
abbrev pub shows_at : Option Change → ℕ → ℤ → ℤ → Bool
shows_at None id x y = false
shows_at (Some change) id x y = (change.layer == id) && (change.whole || covered change.rects x y)

-- the layer changed whole
abbrev pub is_changed_whole : Option Change → ℕ → Bool
is_changed_whole None id = false
is_changed_whole (Some change) id = (change.layer == id) && change.whole

-- what a command does not list it does not change, in each layer that is there before and after it: neither what the layer shows at a point, nor the size of a layer that is not listed whole; a layer that is resized keeps its list, so it shows at each point what it showed
pub record KeepsTheRest (p : Page) (c : Command) : Type 0 where
  pub content : (id : ℕ) (x y : ℤ) → has_layer id p.layers ≡ true → has_layer id (page_after_command p c).layers ≡ true
      → shows_at (layer_change_of p c) id x y ≡ false → content_at (page_after_command p c) id x y ≡ content_at p id x y
  pub size : (id : ℕ) → has_layer id p.layers ≡ true → has_layer id (page_after_command p c).layers ≡ true
      → is_changed_whole (layer_change_of p c) id ≡ false → size_of (page_after_command p c) id ≡ size_of p id
  pub resized : (id w h : ℕ) (x y : ℤ) → c ≡ command.ResizeLayer (record { id = id; w = w; h = h }) → content_at (page_after_command p c) id x y ≡ content_at p id x y
