-- When each call may be made: there is a run for which it stands, and in which this comes next.
use Rattle.std.specs.Prelude.{◌≡◌, ℕ, suc, ℤ, true, List, ◌∷◌, Option, Some}
use Rattle.page_layers.specs.Pages.{Page}
use Rattle.page_layers.specs.declared.moves.Move.{Move}
use Rattle.model_history.specs.declared.input.Input.TheVariants as input
use Rattle.model_history.specs.declared.history.Entry.{Entry}
use Rattle.model_history.specs.Scripts.{ScriptModel}
use Rattle.model_history.specs.EventFields as fields
use Rattle.model_history.specs.Frames as frames
use Rattle.model_history.specs.Frames.{pulls_of, pending_page}
use Rattle.model_history.specs.Scrolls.{clobbers}
use Rattle.model_history.specs.Due.{input_now}
use Rattle.model_history.specs.Accepted.{IsPlayable}
use Rattle.model_history.specs.Legal.{Legal}
use Rattle.model_steps.specs.Events.{send, abort, commit, activate}
use Rattle.impl_scroll.specs.Rows.{has_number}
use Rattle.impl_scroll.specs.declared.pages.Pages.{Pages}
use Rattle.impl_scroll.specs.Standings.{StandingModel, StandsForPast, page_at, ArePages, uses_scroll}

-- it represents a run
pub record StandsNow (st : StandingModel) : Type 0 where
  pub script : ScriptModel
  pub workers : ℕ
  pub past : List Entry
  pub playable : IsPlayable script
  pub legal : Legal script workers past
  pub stands : StandsForPast script past st

-- a run in which this page is active
pub record ShowsNow (st : StandingModel) (active : Option Page) : Type 0 where
  pub script : ScriptModel
  pub workers : ℕ
  pub past : List Entry
  pub playable : IsPlayable script
  pub legal : Legal script workers past
  pub stands : StandsForPast script past st
  pub page : active ≡ page_at script past (frames.active past)

-- a run in which this page is active, and the next input is this wheel
pub record WheelsNow (st : StandingModel) (active : Option Page) (x y : ℕ) (dx dy : ℤ) : Type 0 where
  pub script : ScriptModel
  pub workers : ℕ
  pub past : List Entry
  pub playable : IsPlayable script
  pub legal : Legal script workers past
  pub stands : StandsForPast script past st
  pub page : active ≡ page_at script past (frames.active past)
  pub input : input_now script past ≡ Some (input.Wheel x y dx dy)

-- a run of these pages, in which a scroll or a wheel with these moves may come next
pub record MovesNow (st : StandingModel) (seen : Pages) (ms : List Move) : Type 0 where
  pub script : ScriptModel
  pub workers : ℕ
  pub past : List Entry
  pub entry : Entry
  pub playable : IsPlayable script
  pub legal : Legal script workers (entry ∷ past)
  pub stands : StandsForPast script past st
  pub pages : ArePages script past seen
  pub scroll : uses_scroll entry.event ≡ true
  pub moves : fields.moves script entry.event ≡ ms

-- a run in which a main frame may be sent next
pub record ScrollSends (st : StandingModel) : Type 0 where
  pub script : ScriptModel
  pub workers : ℕ
  pub past : List Entry
  pub actor : ℕ
  pub frame : ℕ
  pub pulls : List Move
  pub playable : IsPlayable script
  pub legal : Legal script workers (send actor frame pulls ∷ past)
  pub stands : StandsForPast script past st

-- a run of these pages, in which an abort may come next
pub record AbortsNow (st : StandingModel) (seen : Pages) : Type 0 where
  pub script : ScriptModel
  pub workers : ℕ
  pub past : List Entry
  pub actor : ℕ
  pub frame : ℕ
  pub playable : IsPlayable script
  pub legal : Legal script workers (abort actor frame ∷ past)
  pub stands : StandsForPast script past st
  pub pages : ArePages script past seen

-- a run in which the commit of this page may come next, which sets these scrollers outright
pub record CommitsNow (st : StandingModel) (active : Option Page) (page : Page) (ids : List ℕ) : Type 0 where
  pub script : ScriptModel
  pub workers : ℕ
  pub past : List Entry
  pub actor : ℕ
  pub frame : ℕ
  pub playable : IsPlayable script
  pub legal : Legal script workers (commit actor frame ∷ past)
  pub stands : StandsForPast script past st
  pub active_page : active ≡ page_at script past (frames.active past)
  pub page_is : page ≡ frames.page script (pulls_of past) (suc frame)
  pub outright : (sc : ℕ) → has_number ids sc ≡ clobbers script (Some frame) sc

-- a run in which the activation of this page with these moves may come next
pub record ScrollActivates (st : StandingModel) (page : Page) (clamps : List Move) : Type 0 where
  pub script : ScriptModel
  pub workers : ℕ
  pub past : List Entry
  pub actor : ℕ
  pub frame : ℕ
  pub playable : IsPlayable script
  pub legal : Legal script workers (activate actor frame clamps ∷ past)
  pub stands : StandsForPast script past st
  pub page_is : page ≡ pending_page script past
