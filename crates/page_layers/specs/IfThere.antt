-- What is said of a layer, an item or an effect that may be missing, by name: calls and proofs speak of it.
use Rattle.std.specs.Prelude.{ℕ, List, [], length, Option, slice_get, option_map, option_and_then, unwrap_or, Result, ok_or}
use Rattle.std.specs.List.{cons_option}
use Rattle.geom.specs.declared.rect.Rect.{Rect}
use Rattle.page_properties.specs.declared.nodes.EffectNode.{EffectNode}
use Rattle.page_display_list.specs.Content.{rect_of_item}
use Rattle.page_layers.specs.declared.fault.EditFault.{EditFault}
use Rattle.page_layers.specs.declared.fault.EditFault.TheVariants as fault
use Rattle.page_layers.specs.Layers.{PageLayer}
use Rattle.page_layers.specs.Pages.{Page}
use Rattle.page_layers.specs.Hits.{chain}

-- the opacity of an effect; 255 if there is none
abbrev pub opacity_or_255 : Option EffectNode → ℕ
opacity_or_255 effect = unwrap_or (option_map (λ n. n.opacity) effect) 255

-- how many items a layer has; the fault if there is none
abbrev pub count_in : Option PageLayer → Result ℕ EditFault
count_in layer = ok_or (option_map (λ l. length l.items) layer) fault.UnknownId

-- the rect of an item of a layer
abbrev pub item_rect_in : ℕ → Option PageLayer → Option Rect
item_rect_in at layer = option_and_then (λ l. option_map rect_of_item (slice_get l.items at)) layer

-- a rect, as a list
abbrev pub rects_of : Option Rect → List Rect
rects_of rect = cons_option rect []

-- the chain of a layer
abbrev pub chain_or_none : Page → Option PageLayer → List ℕ
chain_or_none p layer = unwrap_or (option_map (chain p) layer) []
