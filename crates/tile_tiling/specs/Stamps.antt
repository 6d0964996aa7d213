-- The stamp of a place over a list of commits.
use Rattle.std.specs.Prelude.{◌≡◌, ℕ, Bool, true, false, ◌||◌, if◌then◌else◌, Option, Some, None, option_map, unwrap_or, List, [], ◌∷◌}
use Rattle.geom.specs.declared.rect.Rect.{Rect}
use Rattle.geom.specs.declared.tile.Place.{Place}
use Rattle.geom.specs.Sides.{Sides}
use Rattle.geom.specs.Grids.{has, rect_of_place}
use Rattle.region.specs.declared.change.LayerChange.{LayerChange}
use Rattle.region.specs.Lists.{Changed, change_of}
use Rattle.tile_tiling.specs.Tiles.{Tiled, stamp_at, HasStamps, shows_in, IsCarried}

-- a commit: the number of its main frame, and what the commands of the frame changed
pub record Commit : Type 0 where
  pub frame : ℕ
  pub changed : Changed

-- the change of a layer that may be missing shows in a rect of the layer
abbrev pub may_show_in : Option LayerChange → Rect → Bool
may_show_in change r = unwrap_or (option_map (λ c. shows_in c r) change) false

-- the commit may have changed what a rect of the layer shows: it gave the tree another tile size, or its change of the layer shows in the rect
abbrev pub changes_in : ℕ → Rect → Commit → Bool
changes_in layer r c = c.changed.retiled || may_show_in (change_of c.changed.list layer) r

-- the last commit that passes a test, of a list with the latest first; the stamp of a place of a layer after these commits: the last one that changed what the place shows
abbrev pub last_that : (Commit → Bool) → List Commit → Option ℕ
last_that test [] = None
last_that test (c ∷ cs) = if test c then Some c.frame else last_that test cs

abbrev pub stamp_of : ℕ → Rect → List Commit → Option ℕ
stamp_of layer place cs = last_that (changes_in layer place) cs

-- the tiling has the stamps of this layer after these commits
abbrev pub IsStamped : Tiled → Sides → ℕ → List Commit → Type 0
IsStamped t g layer cs = (p : Place) → has g p ≡ true → Some (stamp_at t p) ≡ stamp_of layer (rect_of_place g p) cs

-- a tiling with the stamps of some commits is stepped by one more
pub record CarryStepsStamps : Type 0 where
  -- a commit that retiles, or in which the layer changed whole: all places have its number
  pub anew : (t : Tiled) (g : Sides) (layer : ℕ) (c : Commit) (cs : List Commit)
      → ((r : Rect) → changes_in layer r c ≡ true) → HasStamps t g (λ _. c.frame) → IsStamped t g layer (c ∷ cs)
  -- a commit that lists the layer: the change is carried
  pub carried : (t u : Tiled) (layer : ℕ) (d : LayerChange) (c : Commit) (cs : List Commit)
      → c.changed.retiled ≡ false → change_of c.changed.list layer ≡ Some d
      → IsStamped t t.grid layer cs → IsCarried t d c.frame u → IsStamped u t.grid layer (c ∷ cs)
  -- a commit that does not list the layer: the stamps stay
  pub kept : (t : Tiled) (layer : ℕ) (c : Commit) (cs : List Commit)
      → c.changed.retiled ≡ false → change_of c.changed.list layer ≡ None
      → IsStamped t t.grid layer cs → IsStamped t t.grid layer (c ∷ cs)
