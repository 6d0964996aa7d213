-- What a judge answers to an entry, and what it tells is shown.
use Rattle.std.specs.Prelude.{◌≡◌, Bool, true, false, List, Option, Some, None}
use Rattle.page_properties.specs.OffsetMap.{offset_at, AreOffsets}
use Rattle.model_history.specs.declared.history.Entry.{Entry}
use Rattle.model_history.specs.Frames.{active, active_page}
use Rattle.model_history.specs.Legal.{Next}
use Rattle.model_history.specs.Scripts.{ScriptModel}
use Rattle.model_history.specs.Scrolls.{active_offsets}
use Rattle.impl_log.specs.Runs.{Run, past, with_entry}
use Rattle.recording_judge.specs.declared.screen_state.ScreenState.{ScreenState}

-- the answer tells whether the entry may come next, which was entered then; else nothing has changed
abbrev pub JudgesEntry : Run → Entry → Run → Bool → Type 0
JudgesEntry old e new true = Next old.script old.workers (past old) e × (new ≡ with_entry old e.actor e.event)
JudgesEntry old e new false = (Next old.script old.workers (past old) e → ⊥) × (new ≡ old)

-- it is the active page after a past, at the offsets of its scrollers, over the script's background
pub record IsShown (s : ScriptModel) (h : List Entry) (v : ScreenState) : Type 0 where
  pub page : v.page.now ≡ active_page s h
  pub offsets : offset_at v.offsets.now ≡ active_offsets s h
  pub in_range : AreOffsets (offset_at v.offsets.now)
  pub background : v.background ≡ s.background

-- the same, or no page is active yet
abbrev pub IsShownNow : ScriptModel → List Entry → Option ScreenState → Type 0
IsShownNow s h None = active h ≡ None
IsShownNow s h (Some v) = IsShown s h v
