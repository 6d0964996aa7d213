-- An abort where the pending commit sets no scroller outright leaves the tiles and what an activation needs.
use Rattle.std.proofs.Common.{◌≡◌, ℕ, ◌==◌, true, false, List, [], ◌∷◌, length, refl, ap, arith}
use Rattle.model_history.specs.declared.history.Entry.{Entry}
use Rattle.model_history.specs.Scripts.{ScriptModel}
use Rattle.model_history.specs.Frames.{pending}
use Rattle.model_history.specs.Scrolls.{clobbers}
use Rattle.model_history.specs.Tiles.{visible_in, ready, required}
use Rattle.model_history.specs.Legal.{Legal}
use Rattle.model_history.proofs.BoolFacts.{same_number}
use Rattle.model_steps.specs.Events.{abort}
use Rattle.model_steps.proofs.TreesAfter.{same_ready, abort_active, abort_pending, abort_choice}
use Rattle.impl_scroll.specs.Rows.{has_number}
use Rattle.impl_choice.proofs.SameTiles.{same_tiles}
use Rattle.impl_tiles.specs.Managers.{Managed, Manages}
use Rattle.impl_tiles.proofs.OtherTiles.{reseen, stays_foreseen}
use Rattle.impl_core.specs.declared.drawn.Drawn.{Drawn}
use Rattle.impl_core.specs.declared.needs.Needs.{Needs}
use Rattle.impl_core.specs.inner.Needed.{KnowsNeeds}
use Rattle.impl_core.specs.inner.Cores.{IsDrawnAt}
use Rattle.impl_core.proofs.NeedSteps.{same_needs}
use Rattle.impl_core.proofs.CoreSteps.{same_drawn}

-- an empty list names no scroller
pub none_named : (ids : List ℕ) → (length ids == 0) ≡ true → (sc : ℕ) → has_number ids sc ≡ false
none_named [] e sc = refl
none_named (i ∷ is) e sc = let z : length (i ∷ is) ≡ 0 = same_number (length (i ∷ is)) 0 e in absurd (omega (arith, z))

module _ (s : ScriptModel) (n : ℕ) (h : List Entry) (a k : ℕ) (legal : Legal s n (abort a k ∷ h)) (none : (sc : ℕ) → clobbers s (pending h) sc ≡ false) where
  pub tiles_stay : (m : Managed) → Manages s h m → Manages s (abort a k ∷ h) m
  tiles_stay m holds =
      reseen s h (abort a k ∷ h) m m.outlook holds (same_tiles s h (abort a k) refl)
      (stays_foreseen s h (abort a k ∷ h) m.outlook (abort_active s n h a k legal) (abort_pending s n h a k legal none) (abort_choice s n h a k legal none) holds.outlook)

  ready_stays : ready s (abort a k ∷ h) ≡ ready s h
  ready_stays = same_ready s h (abort a k ∷ h) (abort_active s n h a k legal) (abort_pending s n h a k legal none) refl

  pub needs_stay : (d : Needs) → KnowsNeeds d (required s h) (ready s h) → KnowsNeeds d (required s (abort a k ∷ h)) (ready s (abort a k ∷ h))
  needs_stay d known = same_needs d (required s h) (required s (abort a k ∷ h)) (ready s h) (ready s (abort a k ∷ h)) (ap visible_in (abort_pending s n h a k legal none)) ready_stays known

  pub drawing_stays : (d : Drawn) → IsDrawnAt s h d → IsDrawnAt s (abort a k ∷ h) d
  drawing_stays d shows =
      same_drawn s d h (abort a k ∷ h) (abort_active s n h a k legal) ready_stays shows
