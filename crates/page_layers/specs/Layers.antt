-- A layer as contracts see it, and lists of layers.
use Rattle.std.specs.Prelude.{ℕ, ◌==◌, Bool, Option, option_map, unwrap_or, List, insert, find}
use Rattle.pixel.specs.Colours.{Parts}
use Rattle.page_display_list.specs.declared.item.Item.{Item}
use Rattle.page_layers.specs.declared.layer.Layer.{Layer}
use Rattle.page_layers.specs.Lists.{without_first}

-- a layer: its id, the nodes that it names, its size, its background colour, which stands for missing tiles, and the items of its display list
pub record PageLayer : Type 0 where
  pub id : ℕ
  pub transform : ℕ
  pub clip : ℕ
  pub effect : ℕ
  pub w : ℕ
  pub h : ℕ
  pub colour : Parts
  pub items : List Item

-- what contracts see of a layer: who shares its display list is left out
abbrev pub parts_of : Layer → PageLayer
parts_of l = record { id = l.id; transform = l.transform; clip = l.clip; effect = l.effect; w = l.w; h = l.h; colour = l.colour; items = l.list.value }

-- whether a layer has this id
abbrev pub has_id : ℕ → PageLayer → Bool
has_id id l = l.id == id

-- a layer with another size; with another background colour; with other items
abbrev pub with_size : ℕ → ℕ → PageLayer → PageLayer
with_size w h l = record l { w = w; h = h }

abbrev pub with_colour : Parts → PageLayer → PageLayer
with_colour c l = record l { colour = c }

abbrev pub with_items : (List Item → List Item) → PageLayer → PageLayer
with_items f l = record l { items = f l.items }

-- a layer, if there is one, at this place of the others
abbrev pub put_at : ℕ → Option PageLayer → List PageLayer → List PageLayer
put_at at layer layers = unwrap_or (option_map (insert layers at) layer) layers

-- the layers with this one taken out and inserted at a place of the others
abbrev pub with_layer_moved : ℕ → ℕ → List PageLayer → List PageLayer
with_layer_moved id at layers = put_at at (find (has_id id) layers) (without_first (has_id id) layers)
