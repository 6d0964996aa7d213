-- The commands that put an item into a list are printed by what is painted in it.
use Rattle.std.proofs.Common.{◌≡◌, ℕ, codes, refl}
use Rattle.page_display_list.specs.declared.item.Item.{Item}
use Rattle.page_display_list.specs.declared.item.Item.TheVariants as kind
use Rattle.page_layers.specs.declared.command.InsertItem.{InsertItem}
use Rattle.page_layers.specs.declared.command.ReplaceItem.{ReplaceItem}
use Rattle.page_layers.specs.declared.command.Command.TheVariants as command
use Rattle.script_json.specs.CommandValues.{command_data}
use Rattle.script_json.specs.inner.ItemValues.{rect_item_data, bitmap_data, item_data}

inserted : (layer place : ℕ) (i : Item) → command_data (command.InsertItem (record { layer = layer; at = place; item = i })) ≡ item_data (codes "insert_item") layer place i
unfolding command_data rect_item_data bitmap_data
inserted layer place (kind.Rect r c) = refl
inserted layer place (kind.Bitmap p) = refl

replaced : (layer place : ℕ) (i : Item) → command_data (command.ReplaceItem (record { layer = layer; at = place; item = i })) ≡ item_data (codes "replace_item") layer place i
unfolding command_data rect_item_data bitmap_data
replaced layer place (kind.Rect r c) = refl
replaced layer place (kind.Bitmap p) = refl

pub insert_data : (c : InsertItem) → command_data (command.InsertItem c) ≡ item_data (codes "insert_item") c.layer c.at c.item
insert_data c = inserted c.layer c.at c.item

pub replace_data : (c : ReplaceItem) → command_data (command.ReplaceItem c) ≡ item_data (codes "replace_item") c.layer c.at c.item
replace_data c = replaced c.layer c.at c.item
