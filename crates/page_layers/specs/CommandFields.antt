-- The commands: the name of each in scripts, its number for C, and its fields in the format's order. Reading, printing, the ranges and the numbers for C follow this list.
use Rattle.std.specs.Prelude.{ℕ, List, [], ◌∷◌, codes, ◌==◌, Option, Some, None, find, if◌then◌else◌}
use Rattle.std.specs.Option.{option_or}
use Rattle.std.specs.Str.{bytes_eq}
use Rattle.page_layers.specs.declared.command.Command.{Command}
use Rattle.page_layers.specs.declared.command.Command.TheVariants.{AddTransform, SetTransform, AddClip, SetClip, AddEffect, SetOpacity, AddScroller, SetRange, ScrollBy, ScrollTo, AddLayer, RemoveLayer, ResizeLayer, SetColour, InsertItem, RemoveItem, ReplaceItem, MoveLayer, SetView}
use Rattle.page_layers.specs.declared.command.Op.{Op}
use Rattle.page_layers.specs.declared.command.Op.TheVariants as op
use Rattle.page_layers.specs.FieldForms as form
use Rattle.page_layers.specs.FieldForms.{Form, Field, Row, Maker}

infixl 30 ◌is◌
-- a field of this name and form
abbrev pub ◌is◌ : List ℕ → Form → Field
name is form = record { name = name; form = form }

-- the name of a command
abbrev pub op_name : Op → List ℕ
op_name op.AddTransform = codes "add_transform"
op_name op.SetTransform = codes "set_transform"
op_name op.AddClip = codes "add_clip"
op_name op.SetClip = codes "set_clip"
op_name op.AddEffect = codes "add_effect"
op_name op.SetOpacity = codes "set_opacity"
op_name op.AddScroller = codes "add_scroller"
op_name op.SetRange = codes "set_range"
op_name op.ScrollBy = codes "scroll_by"
op_name op.ScrollTo = codes "scroll_to"
op_name op.AddLayer = codes "add_layer"
op_name op.RemoveLayer = codes "remove_layer"
op_name op.ResizeLayer = codes "resize_layer"
op_name op.SetColour = codes "set_colour"
op_name op.InsertItem = codes "insert_item"
op_name op.RemoveItem = codes "remove_item"
op_name op.ReplaceItem = codes "replace_item"
op_name op.MoveLayer = codes "move_layer"
op_name op.SetView = codes "set_view"

-- the number of a command in the library for C
abbrev pub op_number : Op → ℕ
op_number op.AddTransform = 1
op_number op.SetTransform = 2
op_number op.AddClip = 3
op_number op.SetClip = 4
op_number op.AddEffect = 5
op_number op.SetOpacity = 6
op_number op.AddScroller = 7
op_number op.SetRange = 8
op_number op.ScrollBy = 9
op_number op.ScrollTo = 10
op_number op.AddLayer = 11
op_number op.RemoveLayer = 12
op_number op.ResizeLayer = 13
op_number op.SetColour = 14
op_number op.InsertItem = 18
op_number op.RemoveItem = 17
op_number op.ReplaceItem = 19
op_number op.MoveLayer = 15
op_number op.SetView = 16

-- the commands on the nodes of a page, and those on its layers, their items and the view
abbrev pub node_ops : List Op
node_ops = op.AddTransform ∷ op.SetTransform ∷ op.AddClip ∷ op.SetClip ∷ op.AddEffect ∷ op.SetOpacity ∷ op.AddScroller ∷ op.SetRange ∷ op.ScrollBy ∷ op.ScrollTo ∷ []

abbrev pub layer_ops : List Op
layer_ops = op.AddLayer ∷ op.RemoveLayer ∷ op.ResizeLayer ∷ op.SetColour ∷ op.InsertItem ∷ op.RemoveItem ∷ op.ReplaceItem ∷ op.MoveLayer ∷ op.SetView ∷ []

-- the first of these commands that has this name
abbrev pub first_named : List Op → List ℕ → Option Op
first_named ops s = find (λ o. bytes_eq s (op_name o)) ops

-- the command of this name: on the nodes of a page; on its layers, their items or the view; on any
unfoldable pub node_op_named : List ℕ → Option Op
node_op_named s = first_named node_ops s

unfoldable pub layer_op_named : List ℕ → Option Op
layer_op_named s = first_named layer_ops s

unfoldable pub op_named : List ℕ → Option Op
op_named s = option_or (node_op_named s) (layer_op_named s)

-- the first of these commands that has this number
abbrev pub first_numbered : List Op → ℕ → Option Op
first_numbered [] n = None
first_numbered (o ∷ os) n = if n == op_number o then Some o else first_numbered os n

-- the command of this number
unfoldable pub op_numbered : ℕ → Option Op
op_numbered n = option_or (first_numbered node_ops n) (first_numbered layer_ops n)

-- the fields of a command
abbrev pub fields : Op → List Field
fields op.AddTransform = (codes "id" is form.whole) ∷ (codes "parent" is form.whole) ∷ (codes "x" is form.signed) ∷ (codes "y" is form.signed) ∷ (codes "scroller" is form.whole) ∷ []
fields op.SetTransform = (codes "id" is form.whole) ∷ (codes "x" is form.signed) ∷ (codes "y" is form.signed) ∷ []
fields op.AddClip = (codes "id" is form.whole) ∷ (codes "parent" is form.whole) ∷ (codes "transform" is form.whole) ∷ (codes "rect" is form.rect) ∷ []
fields op.SetClip = (codes "id" is form.whole) ∷ (codes "rect" is form.rect) ∷ []
fields op.AddEffect = (codes "id" is form.whole) ∷ (codes "parent" is form.whole) ∷ (codes "opacity" is form.whole) ∷ []
fields op.SetOpacity = (codes "id" is form.whole) ∷ (codes "opacity" is form.whole) ∷ []
fields op.AddScroller = (codes "id" is form.whole) ∷ (codes "parent" is form.whole) ∷ (codes "max_x" is form.whole) ∷ (codes "max_y" is form.whole) ∷ []
fields op.SetRange = (codes "id" is form.whole) ∷ (codes "max_x" is form.whole) ∷ (codes "max_y" is form.whole) ∷ []
fields op.ScrollBy = (codes "id" is form.whole) ∷ (codes "dx" is form.signed) ∷ (codes "dy" is form.signed) ∷ []
fields op.ScrollTo = (codes "id" is form.whole) ∷ (codes "x" is form.whole) ∷ (codes "y" is form.whole) ∷ []
fields op.AddLayer = (codes "id" is form.whole) ∷ (codes "at" is form.whole) ∷ (codes "transform" is form.whole) ∷ (codes "clip" is form.whole) ∷ (codes "effect" is form.whole) ∷ (codes "w" is form.whole) ∷ (codes "h" is form.whole) ∷ (codes "colour" is form.colour) ∷ []
fields op.RemoveLayer = (codes "id" is form.whole) ∷ []
fields op.ResizeLayer = (codes "id" is form.whole) ∷ (codes "w" is form.whole) ∷ (codes "h" is form.whole) ∷ []
fields op.SetColour = (codes "id" is form.whole) ∷ (codes "colour" is form.colour) ∷ []
fields op.InsertItem = (codes "layer" is form.whole) ∷ (codes "at" is form.whole) ∷ (codes "rect" is form.item) ∷ []
fields op.RemoveItem = (codes "layer" is form.whole) ∷ (codes "at" is form.whole) ∷ []
fields op.ReplaceItem = (codes "layer" is form.whole) ∷ (codes "at" is form.whole) ∷ (codes "rect" is form.item) ∷ []
fields op.MoveLayer = (codes "id" is form.whole) ∷ (codes "at" is form.whole) ∷ []
fields op.SetView = (codes "w" is form.whole) ∷ (codes "h" is form.whole) ∷ (codes "tile" is form.whole) ∷ []

-- the command of their values
abbrev pub make : (o : Op) → Maker Command (fields o)
make op.AddTransform = λ id parent x y scroller. AddTransform (record { id = id; parent = parent; x = x; y = y; scroller = scroller })
make op.SetTransform = λ id x y. SetTransform (record { id = id; x = x; y = y })
make op.AddClip = λ id parent transform rect. AddClip (record { id = id; parent = parent; transform = transform; rect = rect })
make op.SetClip = λ id rect. SetClip (record { id = id; rect = rect })
make op.AddEffect = λ id parent opacity. AddEffect (record { id = id; parent = parent; opacity = opacity })
make op.SetOpacity = λ id opacity. SetOpacity (record { id = id; opacity = opacity })
make op.AddScroller = λ id parent max_x max_y. AddScroller (record { id = id; parent = parent; max_x = max_x; max_y = max_y })
make op.SetRange = λ id max_x max_y. SetRange (record { id = id; max_x = max_x; max_y = max_y })
make op.ScrollBy = λ id dx dy. ScrollBy (record { id = id; dx = dx; dy = dy })
make op.ScrollTo = λ id x y. ScrollTo (record { id = id; x = x; y = y })
make op.AddLayer = λ id at transform clip effect w h colour. AddLayer (record { id = id; at = at; transform = transform; clip = clip; effect = effect; w = w; h = h; colour = colour })
make op.RemoveLayer = λ id. RemoveLayer (record { id = id })
make op.ResizeLayer = λ id w h. ResizeLayer (record { id = id; w = w; h = h })
make op.SetColour = λ id colour. SetColour (record { id = id; colour = colour })
make op.InsertItem = λ layer at item. InsertItem (record { layer = layer; at = at; item = item })
make op.RemoveItem = λ layer at. RemoveItem (record { layer = layer; at = at })
make op.ReplaceItem = λ layer at item. ReplaceItem (record { layer = layer; at = at; item = item })
make op.MoveLayer = λ id at. MoveLayer (record { id = id; at = at })
make op.SetView = λ w h tile. SetView (record { w = w; h = h; tile = tile })

-- the name of this command
abbrev pub op_of : Command → Op
op_of (AddTransform c) = op.AddTransform
op_of (SetTransform c) = op.SetTransform
op_of (AddClip c) = op.AddClip
op_of (SetClip c) = op.SetClip
op_of (AddEffect c) = op.AddEffect
op_of (SetOpacity c) = op.SetOpacity
op_of (AddScroller c) = op.AddScroller
op_of (SetRange c) = op.SetRange
op_of (ScrollBy c) = op.ScrollBy
op_of (ScrollTo c) = op.ScrollTo
op_of (AddLayer c) = op.AddLayer
op_of (RemoveLayer c) = op.RemoveLayer
op_of (ResizeLayer c) = op.ResizeLayer
op_of (SetColour c) = op.SetColour
op_of (InsertItem c) = op.InsertItem
op_of (RemoveItem c) = op.RemoveItem
op_of (ReplaceItem c) = op.ReplaceItem
op_of (MoveLayer c) = op.MoveLayer
op_of (SetView c) = op.SetView

-- the values of its fields
abbrev pub values_of : (c : Command) → Row (fields (op_of c))
values_of (AddTransform c) = (c.id, (c.parent, (c.x, (c.y, (c.scroller, tt)))))
values_of (SetTransform c) = (c.id, (c.x, (c.y, tt)))
values_of (AddClip c) = (c.id, (c.parent, (c.transform, (c.rect, tt))))
values_of (SetClip c) = (c.id, (c.rect, tt))
values_of (AddEffect c) = (c.id, (c.parent, (c.opacity, tt)))
values_of (SetOpacity c) = (c.id, (c.opacity, tt))
values_of (AddScroller c) = (c.id, (c.parent, (c.max_x, (c.max_y, tt))))
values_of (SetRange c) = (c.id, (c.max_x, (c.max_y, tt)))
values_of (ScrollBy c) = (c.id, (c.dx, (c.dy, tt)))
values_of (ScrollTo c) = (c.id, (c.x, (c.y, tt)))
values_of (AddLayer c) = (c.id, (c.at, (c.transform, (c.clip, (c.effect, (c.w, (c.h, (c.colour, tt))))))))
values_of (RemoveLayer c) = (c.id, tt)
values_of (ResizeLayer c) = (c.id, (c.w, (c.h, tt)))
values_of (SetColour c) = (c.id, (c.colour, tt))
values_of (InsertItem c) = (c.layer, (c.at, (c.item, tt)))
values_of (RemoveItem c) = (c.layer, (c.at, tt))
values_of (ReplaceItem c) = (c.layer, (c.at, (c.item, tt)))
values_of (MoveLayer c) = (c.id, (c.at, tt))
values_of (SetView c) = (c.w, (c.h, (c.tile, tt)))
