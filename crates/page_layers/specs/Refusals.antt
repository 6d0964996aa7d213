-- Which commands a page refuses: the tests of each command, in the order of the faults' numbers. The first that fails is the answer. The last fault, that layers would not stand together, looks at the page after the command and is tested after all others.
use Rattle.std.specs.Prelude.{ℕ, ℤ, pos, neg_ℤ, Bool, ◌&&◌, not, nat_lt, nat_le, List, [], length, option_map, ok_or, Result, ⊤, find, is_some, ◌==◌}
use Rattle.std.specs.List.{list_any}
use Rattle.geom.specs.Limits.{max_nodes, max_layers, max_items, max_side, max_viewport, min_tile, max_tile, max_offset, max_scroll}
use Rattle.geom.specs.declared.rect.Rect.{Rect}
use Rattle.page_properties.specs.Entries.{knows, is_known}
use Rattle.page_display_list.specs.declared.item.Item.{Item}
use Rattle.page_display_list.specs.Content.{rect_of_item}
use Rattle.page_layers.specs.declared.fault.EditFault.{EditFault}
use Rattle.page_layers.specs.declared.fault.EditFault.TheVariants as fault
use Rattle.page_layers.specs.declared.command.Command.{Command}
use Rattle.page_layers.specs.declared.command.Command.TheVariants as command
use Rattle.page_layers.specs.Tests.{◌>>=◌, require, check_range, is_id, is_size}
use Rattle.page_layers.specs.Layers.{PageLayer, has_id}
use Rattle.page_layers.specs.Pages.{Page}

-- the offset of a transform: both -65536 to 65536
unfoldable pub is_offset : ℤ → ℤ → Result ⊤ EditFault
is_offset x y = do
  _ ← check_range x (neg_ℤ (pos max_offset)) (pos max_offset)
  check_range y (neg_ℤ (pos max_offset)) (pos max_offset)

-- the rect of a clip: x and y -65536 to 65536, w and h 0 to 65536
unfoldable pub is_clip_rect : Rect → Result ⊤ EditFault
is_clip_rect r = do
  _ ← check_range r.x (neg_ℤ (pos max_offset)) (pos max_offset)
  _ ← check_range r.y (neg_ℤ (pos max_offset)) (pos max_offset)
  _ ← check_range r.w (pos 0) (pos max_offset)
  check_range r.h (pos 0) (pos max_offset)

-- the rect of an item: x and y -16384 to 16384, w and h 1 to 16384
unfoldable pub is_item_rect : Rect → Result ⊤ EditFault
is_item_rect r = do
  _ ← check_range r.x (neg_ℤ (pos max_side)) (pos max_side)
  _ ← check_range r.y (neg_ℤ (pos max_side)) (pos max_side)
  _ ← check_range r.w (pos 1) (pos max_side)
  check_range r.h (pos 1) (pos max_side)

-- the ends of a scroll range, or a place in the largest: both 0 to 1048576
unfoldable pub is_scroll_range : ℕ → ℕ → Result ⊤ EditFault
is_scroll_range x y = do
  _ ← check_range (pos x) (pos 0) (pos max_scroll)
  check_range (pos y) (pos 0) (pos max_scroll)

-- a scroll: both -1048576 to 1048576
unfoldable pub check_scroll : ℤ → ℤ → Result ⊤ EditFault
check_scroll dx dy = do
  _ ← check_range dx (neg_ℤ (pos max_scroll)) (pos max_scroll)
  check_range dy (neg_ℤ (pos max_scroll)) (pos max_scroll)

-- how many items the layer with this id has; whether there is one
abbrev pub item_count : ℕ → List PageLayer → Result ℕ EditFault
item_count id layers = ok_or (option_map (λ l. length l.items) (find (has_id id) layers)) fault.UnknownId

abbrev pub has_layer : ℕ → List PageLayer → Bool
has_layer id layers = is_some (find (has_id id) layers)

-- a family takes one more node under this id
unfoldable pub takes : {N : Type 0} → ℕ → List (ℕ × N) → Result ⊤ EditFault
takes id nodes = do
  _ ← require (not (knows id nodes)) fault.IdUsed
  _ ← require (nat_lt (length nodes) max_nodes) (fault.TooMany max_nodes)
  is_id id

-- the tests of a command in a page, in the order of the faults' numbers: passed, or the fault of the first that fails, and those after it are not looked at
unfoldable pub test_of : Page → Command → Result ⊤ EditFault
test_of p (command.AddTransform c) = do
  _ ← require (is_known c.parent p.props.transforms && is_known c.scroller p.props.scrollers) fault.UnknownId
  _ ← takes c.id p.props.transforms
  is_offset c.x c.y
test_of p (command.SetTransform c) = do
  _ ← require (knows c.id p.props.transforms) fault.UnknownId
  is_offset c.x c.y
test_of p (command.AddClip c) = do
  _ ← require (is_known c.parent p.props.clips && is_known c.transform p.props.transforms) fault.UnknownId
  _ ← takes c.id p.props.clips
  is_clip_rect c.rect
test_of p (command.SetClip c) = do
  _ ← require (knows c.id p.props.clips) fault.UnknownId
  is_clip_rect c.rect
test_of p (command.AddEffect c) = do
  _ ← require (is_known c.parent p.props.effects) fault.UnknownId
  _ ← takes c.id p.props.effects
  check_range (pos c.opacity) (pos 0) (pos 255)
test_of p (command.SetOpacity c) = do
  _ ← require (knows c.id p.props.effects) fault.UnknownId
  check_range (pos c.opacity) (pos 0) (pos 255)
test_of p (command.AddScroller c) = do
  _ ← require (is_known c.parent p.props.scrollers) fault.UnknownId
  _ ← takes c.id p.props.scrollers
  is_scroll_range c.max_x c.max_y
test_of p (command.SetRange c) = do
  _ ← require (knows c.id p.props.scrollers) fault.UnknownId
  is_scroll_range c.max_x c.max_y
test_of p (command.ScrollBy c) = do
  _ ← require (knows c.id p.props.scrollers) fault.UnknownId
  check_scroll c.dx c.dy
test_of p (command.ScrollTo c) = do
  _ ← require (knows c.id p.props.scrollers) fault.UnknownId
  is_scroll_range c.x c.y
test_of p (command.AddLayer c) = do
  _ ← require (is_known c.transform p.props.transforms && is_known c.clip p.props.clips && is_known c.effect p.props.effects) fault.UnknownId
  _ ← require (not (list_any (λ id. id == c.id) p.used)) fault.IdUsed
  _ ← require (nat_le c.at (length p.layers)) fault.BadPlace
  _ ← require (nat_lt (length p.layers) max_layers) (fault.TooMany max_layers)
  _ ← is_id c.id
  is_size c.w c.h
test_of p (command.RemoveLayer c) = require (has_layer c.id p.layers) fault.UnknownId
test_of p (command.ResizeLayer c) = do
  _ ← require (has_layer c.id p.layers) fault.UnknownId
  is_size c.w c.h
test_of p (command.SetColour c) = require (has_layer c.id p.layers) fault.UnknownId
test_of p (command.InsertItem c) = do
  count ← item_count c.layer p.layers
  _ ← require (nat_le c.at count) fault.BadPlace
  _ ← require (nat_lt count max_items) (fault.TooMany max_items)
  is_item_rect (rect_of_item c.item)
test_of p (command.RemoveItem c) = do
  count ← item_count c.layer p.layers
  require (nat_lt c.at count) fault.BadPlace
test_of p (command.ReplaceItem c) = do
  count ← item_count c.layer p.layers
  _ ← require (nat_lt c.at count) fault.BadPlace
  is_item_rect (rect_of_item c.item)
test_of p (command.MoveLayer c) = do
  _ ← require (has_layer c.id p.layers) fault.UnknownId
  require (nat_lt c.at (length p.layers)) fault.BadPlace
test_of p (command.SetView c) = do
  _ ← check_range (pos c.w) (pos 1) (pos max_viewport)
  _ ← check_range (pos c.h) (pos 1) (pos max_viewport)
  check_range (pos c.tile) (pos min_tile) (pos max_tile)
