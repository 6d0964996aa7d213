-- Words for the laws on tiles.
use Rattle.std.specs.Prelude.{◌≡◌, Bool, true, false, List, [], ◌∷◌, is_some}
use Rattle.geom.specs.declared.tile.TileKey.{TileKey}
use Rattle.model_history.specs.declared.event.Event.{Event}
use Rattle.model_history.specs.declared.event.Event.TheVariants as event
use Rattle.model_history.specs.declared.history.Entry.{Entry}
use Rattle.model_history.specs.EventFields.{activates}
use Rattle.geom.specs.KeyLists.{has_key}

-- every key of the first list is one of the second; no key is in both lists
abbrev pub Within : List TileKey → List TileKey → Type 0
Within ks ls = (q : TileKey) → has_key ks q ≡ true → has_key ls q ≡ true

abbrev pub AreApart : List TileKey → List TileKey → Type 0
AreApart ks ls = (q : TileKey) → has_key ks q ≡ true → has_key ls q ≡ false

-- it activates a commit; the missing keys that a draw lists
abbrev pub is_activate : Event → Bool
is_activate e = is_some (activates e)

abbrev pub lacking : Event → List TileKey
lacking (event.Draw i missing) = missing
lacking _ = []

-- whether the tree stands as it was activated, if it did so before the event
abbrev pub rests_after : Event → Bool → Bool
rests_after (event.Activate k clamps) before = true
rests_after (event.Scroll i dx dy) before = false
rests_after (event.Wheel i target rest_x rest_y parts) before = false
rests_after _ before = before

-- something was activated, and no scroll and no wheel came after the last activation
abbrev pub is_at_rest : List Entry → Bool
is_at_rest [] = false
is_at_rest (e ∷ h) = rests_after e.event (is_at_rest h)
