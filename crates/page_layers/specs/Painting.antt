-- The painting of one point: layers in order, in nested groups that are blended as one.
use Rattle.std.specs.Prelude.{ℕ, ◌==◌, cond, List, [], ◌∷◌, drop}
use Rattle.pixel.specs.Colours.{Parts, blend, scaled, clear}

-- the items of an effect in order: a layer's colour, or an effect below 255 with its own items
pub data Items : Type 0 where
  none : Items
  layer : Parts → Items → Items
  group : ℕ → Items → Items → Items

-- the items folded over a colour, by the opacities of effects: a group starts from transparent, is scaled by its opacity and laid over what stands below it
module _ (opacity : ℕ → ℕ) where
  -- the items folded over a colour: a layer's colour is laid over what stands below it; a group starts from transparent, is scaled by its effect's opacity, and laid over what stands below it
  abbrev pub folded : Items → Parts → Parts
  folded none below = below
  folded (layer c rest) below = folded rest (blend below c)
  folded (group e items rest) below = folded rest (blend below (scaled (folded items clear) (opacity e)))

-- the items of the effect's group if that group stands first, and what follows it
abbrev pub inside : ℕ → Items → Items
inside e none = none
inside e (layer c rest) = none
inside e (group f items rest) = cond (e == f) items none

abbrev pub after_group : ℕ → Items → Items
after_group e none = none
after_group e (layer c rest) = layer c rest
after_group e (group f items rest) = cond (e == f) rest (group f items rest)

-- a layer before the items, that lies in these groups, the outermost first: it joins the group that stands first if that is its own
abbrev pub layer_before : List ℕ → Parts → Items → Items
layer_before [] c items = layer c items
layer_before (e ∷ es) c items = group e (layer_before es c (inside e items)) (after_group e items)

-- layers of any kind, with the groups that each lies in, the outermost first, and its colour at the point
module _ {A : Type 0} (groups_of : A → List ℕ) (colour_of : A → Parts) where
  -- the items that the layers make, counting their groups from a depth on
  abbrev pub items_at : ℕ → List A → Items
  items_at depth [] = none
  items_at depth (l ∷ more) = layer_before (drop depth (groups_of l)) (colour_of l) (items_at depth more)
