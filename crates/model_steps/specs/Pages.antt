-- What a page shows of a layer.
use Rattle.std.specs.Prelude.{ℕ, List, Option, find, option_map}
use Rattle.page_display_list.specs.declared.item.Item.{Item}
use Rattle.page_layers.specs.Layers.{has_id}
use Rattle.page_layers.specs.Pages.{Page}

-- the display list of the layer with this id; None if there is no such layer
abbrev pub items_of : Page → ℕ → Option (List Item)
items_of p id = option_map (λ l. l.items) (find (has_id id) p.layers)
