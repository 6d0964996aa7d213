-- What is promised of the history that a run records.
use Rattle.std.specs.Prelude.{◌≡◌, ℕ, true, List, [], ◌∷◌, ◌++◌, reverse}
use Rattle.model_states.specs.Table.{active_value}
use Rattle.page_layers.specs.Axes.{Axis}
use Rattle.page_layers.specs.Scrollers.{most}
use Rattle.page_layers.specs.Scrolls.{IsInRange}
use Rattle.model_history.specs.declared.event.Event.TheVariants as event
use Rattle.model_history.specs.declared.history.Entry.{Entry}
use Rattle.model_history.specs.FrameLaws.{AtEach}
use Rattle.model_history.specs.Frames.{active_page}
use Rattle.model_history.specs.Legal.{IsLegal}
use Rattle.model_history.specs.Lockstep.{IsLockstep}
use Rattle.model_history.specs.Scripts.{ScriptModel}
use Rattle.model_history.specs.Scrolls.{offset}
use Rattle.model_history.specs.TileLaws.{AreApart, Within, is_activate, lacking}
use Rattle.model_history.specs.Tiles.{pinned, ready, required}
use Rattle.model_history.specs.Values.{values}
use Rattle.player_run.specs.Scrolled.{MovesOnce}

-- the last entry is the end of the run
abbrev pub HasEnded : List Entry → Type 0
HasEnded history = (before : List Entry) × (history ≡ before ++ record { actor = 0; event = event.End } ∷ [])

-- a scroller stands right after a past, along an axis
pub record StandsRight (s : ScriptModel) (h : List Entry) (sc : ℕ) (ax : Axis) : Type 0 where
  -- where the five scroll values say that are kept entry by entry, each entry taking its step of their table: at base and delta of the active tree
  pub stepwise : offset s h sc ax ≡ active_value (values s sc ax h)
  -- between 0 and the end of its range on the active page; a scroller that this page lacks stands at 0
  pub in_range : IsInRange (most (active_page s h) sc ax) (offset s h sc ax)

-- a history of a script with the given number of raster workers, up to its end or not
pub record IsSoundHistory (s : ScriptModel) (workers : ℕ) (history : List Entry) : Type 0 where
  -- each entry is what is due after those before it
  pub legal : IsLegal s workers history
  -- at each activation all tiles that it needs are ready
  pub required : AtEach (λ past e. is_activate e.event ≡ true → Within (required s past) (ready s past)) (reverse history)
  -- no tile that a draw lacks is one that the last activation needed
  pub missing : AtEach (λ past e. AreApart (lacking e.event) (pinned s past)) (reverse history)
  -- each entry moves each scroller by the move of it that the entry accepts, an activation also by the main moves that it makes active; nothing else moves a scroller
  pub once : AtEach (MovesOnce s) (reverse history)
  -- after each prefix of it every scroller stands right, along both axes
  pub offsets : (before after : List Entry) → before ++ after ≡ history → (sc : ℕ) (ax : Axis) → StandsRight s (reverse before) sc ax

-- what is promised of the history that `play N` records: it is sound, and its last entry is the end
pub record IsPlayed (s : ScriptModel) (workers : ℕ) (history : List Entry) : Type 0 where
  pub sound : IsSoundHistory s workers history
  pub ends : HasEnded history

-- what is promised of the history that `step N` records: there is one such history, and it is played
pub record IsPromised (s : ScriptModel) (workers : ℕ) (history : List Entry) : Type 0 where
  -- it is the script's lockstep history
  pub lockstep : IsLockstep s history
  pub played : IsPlayed s workers history
