-- What commands and pulls make of a page, and which layers a command lists as changed.
use Rattle.std.specs.Prelude.{ℕ, ℤ, pos, ◌+ℤ◌, Bool, true, false, not, ◌==◌, List, [], ◌∷◌, ◌++◌, insert, remove, slice_set, slice_get, Option, Some, None, find, option_map, option_and_then, unwrap_or}
use Rattle.std.specs.List.{cons_option}
use Rattle.geom.specs.declared.rect.Rect.{Rect}
use Rattle.geom.specs.declared.rect.Point.{Point}
use Rattle.page_properties.specs.declared.nodes.ScrollNode.{ScrollNode}
use Rattle.page_properties.specs.Trees.{Trees as Props}
use Rattle.page_properties.specs.Entries as entries
use Rattle.page_properties.specs.OffsetMap.{origin}
use Rattle.page_display_list.specs.Content.{rect_of_item}
use Rattle.page_layers.specs.declared.command.Command.{Command}
use Rattle.page_layers.specs.declared.command.Command.TheVariants as command
use Rattle.page_layers.specs.Layers.{PageLayer, has_id, with_size, with_colour, with_items, with_layer_moved}
use Rattle.page_layers.specs.Lists.{with_first_changed, without_first}
use Rattle.page_layers.specs.Scrolls.{clamped}
use Rattle.page_layers.specs.Pages.{Page}
use Rattle.page_layers.specs.declared.moves.Move.{Move}

-- a page with other property nodes; with other layers; with the layer of this id changed
abbrev pub with_props : Page → Props → Page
with_props p props = record p { props = props }

abbrev pub with_layers : Page → List PageLayer → Page
with_layers p layers = record p { layers = layers }

abbrev pub with_layer_changed : Page → ℕ → (PageLayer → PageLayer) → Page
with_layer_changed p id f = with_layers p (with_first_changed (has_id id) f p.layers)

-- the main value of a scroller; (0, 0) if the page has no such scroller
abbrev pub main_point : Page → ℕ → Point
main_point p id = unwrap_or (entries.find id p.values) origin

-- a place clamped to the range of a scroller, if the page has it; else the origin
abbrev pub clamped_in : Option ScrollNode → ℤ → ℤ → Point
clamped_in found x y = unwrap_or (option_map (λ node. clamped node x y) found) origin

-- a page in which a scroller's main value is set, clamped to its range; and the same by an amount
abbrev pub scrolled_to : Page → ℕ → ℤ → ℤ → Page
scrolled_to p id x y = record p { values = entries.with_node_changed id (λ v. clamped_in (entries.find id p.props.scrollers) x y) p.values }

abbrev pub scrolled_by : Page → ℕ → ℤ → ℤ → Page
scrolled_by p id dx dy = scrolled_to p id ((main_point p id).x +ℤ dx) ((main_point p id).y +ℤ dy)

-- the page after a command that passed its tests; what a command does not name stays
abbrev pub page_after_command : Page → Command → Page
page_after_command p (command.AddTransform c) = with_props p (record p.props { transforms = (c.id, record { parent = c.parent; x = c.x; y = c.y; scroller = c.scroller }) ∷ p.props.transforms })
page_after_command p (command.SetTransform c) = with_props p (record p.props { transforms = entries.with_node_changed c.id (λ n. record n { x = c.x; y = c.y }) p.props.transforms })
page_after_command p (command.AddClip c) = with_props p (record p.props { clips = (c.id, record { parent = c.parent; transform = c.transform; rect = c.rect }) ∷ p.props.clips })
page_after_command p (command.SetClip c) = with_props p (record p.props { clips = entries.with_node_changed c.id (λ n. record n { rect = c.rect }) p.props.clips })
page_after_command p (command.AddEffect c) = with_props p (record p.props { effects = (c.id, record { parent = c.parent; opacity = c.opacity }) ∷ p.props.effects })
page_after_command p (command.SetOpacity c) = with_props p (record p.props { effects = entries.with_node_changed c.id (λ n. record n { opacity = c.opacity }) p.props.effects })
page_after_command p (command.AddScroller c) = record p { props = record p.props { scrollers = (c.id, record { parent = c.parent; max_x = c.max_x; max_y = c.max_y }) ∷ p.props.scrollers }; values = (c.id, origin) ∷ p.values }
page_after_command p (command.SetRange c) = scrolled_to (with_props p (record p.props { scrollers = entries.with_node_changed c.id (λ n. record n { max_x = c.max_x; max_y = c.max_y }) p.props.scrollers })) c.id (main_point p c.id).x (main_point p c.id).y
page_after_command p (command.ScrollBy c) = scrolled_by p c.id c.dx c.dy
page_after_command p (command.ScrollTo c) = scrolled_to p c.id (pos c.x) (pos c.y)
page_after_command p (command.AddLayer c) = record p { layers = insert p.layers c.at (record { id = c.id; transform = c.transform; clip = c.clip; effect = c.effect; w = c.w; h = c.h; colour = c.colour; items = [] }); used = p.used ++ c.id ∷ [] }
page_after_command p (command.RemoveLayer c) = with_layers p (without_first (has_id c.id) p.layers)
page_after_command p (command.ResizeLayer c) = with_layer_changed p c.id (with_size c.w c.h)
page_after_command p (command.SetColour c) = with_layer_changed p c.id (with_colour c.colour)
page_after_command p (command.InsertItem c) = with_layer_changed p c.layer (with_items (λ items. insert items c.at c.item))
page_after_command p (command.RemoveItem c) = with_layer_changed p c.layer (with_items (λ items. remove items c.at))
page_after_command p (command.ReplaceItem c) = with_layer_changed p c.layer (with_items (λ items. slice_set items c.at c.item))
page_after_command p (command.MoveLayer c) = with_layers p (with_layer_moved c.id c.at p.layers)
page_after_command p (command.SetView c) = record p { view = record { w = c.w; h = c.h; tile = c.tile } }

-- the page after these pulls: each is added to the main value of its scroller and clamped to its range
abbrev pub page_after_pulls : List Move → Page → Page
page_after_pulls [] p = p
page_after_pulls (m ∷ ms) p = page_after_pulls ms (scrolled_by p m.scroller m.dx m.dy)

-- the page after these commands, one after another
abbrev pub commanded : List Command → Page → Page
commanded [] p = p
commanded (c ∷ cs) p = commanded cs (page_after_command p c)

-- what a command changed in one layer: all of it, or what these rects cover
pub record Change : Type 0 where
  pub layer : ℕ
  pub whole : Bool
  pub rects : List Rect

-- the rect of the item at a place of a layer's display list, if there is one
abbrev pub item_rect_at : ℕ → ℕ → List PageLayer → Option Rect
item_rect_at layer at layers = option_and_then (λ l. option_map rect_of_item (slice_get l.items at)) (find (has_id layer) layers)

-- the layer that a command lists: a layer added or resized whole, a layer whose items changed with the old and the new rect
abbrev pub layer_change_of : Page → Command → Option Change
layer_change_of p (command.AddLayer c) = Some (record { layer = c.id; whole = true; rects = [] })
layer_change_of p (command.ResizeLayer c) = Some (record { layer = c.id; whole = true; rects = [] })
layer_change_of p (command.InsertItem c) = Some (record { layer = c.layer; whole = false; rects = rect_of_item c.item ∷ [] })
layer_change_of p (command.RemoveItem c) = Some (record { layer = c.layer; whole = false; rects = cons_option (item_rect_at c.layer c.at p.layers) [] })
layer_change_of p (command.ReplaceItem c) = Some (record { layer = c.layer; whole = false; rects = rect_of_item c.item ∷ cons_option (item_rect_at c.layer c.at p.layers) [] })
layer_change_of p _ = None

-- whether a command retiles: a view whose tile size is not the page's
abbrev pub retiles : Page → Command → Bool
retiles p (command.SetView c) = not (c.tile == p.view.tile)
retiles p _ = false
