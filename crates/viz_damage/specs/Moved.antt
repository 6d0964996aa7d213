-- Scenes that show what others showed some rows before.
use Rattle.std.specs.Prelude.{◌≡◌, ℕ, ◌+◌, ◌≤◌, ℤ, pos, ◌-ℤ◌, ◌≤ℤ◌, ◌<ℤ◌, true, false, List}
use Rattle.geom.specs.declared.Rect.{Rect}
use Rattle.geom.specs.Covers.{covers}
use Rattle.region.specs.Points.{covered}
use Rattle.viz_scene.specs.Views.{SceneView}
use Rattle.viz_scene.specs.Pixels.{scene_pixel}
use Rattle.viz_damage.specs.Damage.{screen}
use Rattle.viz_damage.specs.declared.shift.Shift.{Shift}

-- row `y` is one of those from `top` to before `end`
pub record InRows (top end y : ℤ) : Type 0 where
  pub low : top ≤ℤ y
  pub high : y <ℤ end

-- the rows are a screen's of this height, before and now
pub record IsShift (h : ℕ) (s : Shift) : Type 0 where
  pub before : s.from + s.count ≤ h
  pub now : s.to + s.count ≤ h

-- how many rows lower they are now
abbrev pub fall : Shift → ℤ
fall s = pos s.to -ℤ pos s.from

-- each point of the screen that a region does not cover is in one of the rows that went, and has the pixel that the old scene had where the row was before
abbrev pub AreAlikeMoved : Shift → List Rect → SceneView → SceneView → Type 0
AreAlikeMoved s region old new =
    (x y : ℤ) → covers (screen new) x y ≡ true → covered region x y ≡ false
    → InRows (pos s.to) (pos (s.to + s.count)) y × (scene_pixel new x y ≡ scene_pixel old x (y -ℤ fall s))
