-- Scripts that are told while they are played. A past has read a part of its script: the commands of the main frames that were answered, the inputs that were used, and that there are as many main frames as were sent. The rest may still be told.
use Rattle.std.specs.Prelude.{◌≡◌, ◌<◌, ◌≤◌, ◌||◌, ℕ, Bool, true, false, List, [], ◌∷◌, ◌++◌, length, slice_get}
use Rattle.page_layers.specs.declared.command.Command.{Command}
use Rattle.page_layers.specs.Axes.{Axis}
use Rattle.model_history.specs.declared.event.Event.{Event}
use Rattle.model_history.specs.declared.event.Event.TheVariants as event
use Rattle.model_history.specs.declared.input.Input.{Input}
use Rattle.model_history.specs.declared.history.Entry.{Entry}
use Rattle.model_history.specs.Scripts.{ScriptModel}
use Rattle.model_history.specs.EventFields.{sends, answers, uses}
use Rattle.model_history.specs.Scans.{counted}
use Rattle.model_history.specs.Frames.{commands_of, page, pulls_of, pending, active_page, pending_page}
use Rattle.model_history.specs.Stamps.{frame_changes, commits_to, stamp_in}
use Rattle.model_history.specs.Scrolls.{clobbers, next_pulls, next_clamps, active_offsets, pending_offsets}
use Rattle.model_history.specs.Values.{values}
use Rattle.model_history.specs.Tiles.{live_keys, ready, required, pinned, missing_visible}
use Rattle.model_history.specs.Ranking.{rank, choice}

-- the script of the same settings that has these main frames and inputs
abbrev pub with_main_and_inputs : ScriptModel → List (List Command) → List Input → ScriptModel
with_main_and_inputs s main inputs = record s { main = main; inputs = inputs }

-- the script with one input more, after the others
abbrev pub with_input : ScriptModel → Input → ScriptModel
with_input s x = with_main_and_inputs s s.main (s.inputs ++ x ∷ [])

-- the script with one main frame more, after the others, which has no commands yet
abbrev pub with_main_frame : ScriptModel → ScriptModel
with_main_frame s = with_main_and_inputs s (s.main ++ [] ∷ []) s.inputs

-- main frames of which the last has these commands in place of its own
abbrev pub with_last : List Command → List (List Command) → List (List Command)
with_last cs [] = []
with_last cs (f ∷ []) = cs ∷ []
with_last cs (f ∷ g ∷ fs) = f ∷ with_last cs (g ∷ fs)

-- the script whose last main frame has these commands in place of its own
abbrev pub with_commands : ScriptModel → List Command → ScriptModel
with_commands s cs = with_main_and_inputs s (with_last cs s.main) s.inputs

-- an event that looks ahead, since it comes only if something is not said: the end if no input and no main frame is left, an impl frame for a main frame alone if the next input is no draw
abbrev pub looks_ahead : Event → Bool
looks_ahead event.BeginPlain = true
looks_ahead event.End = true
looks_ahead _ = false

-- the past holds an event that looks ahead
abbrev pub has_looked_ahead : List Entry → Bool
has_looked_ahead [] = false
has_looked_ahead (e ∷ h) = looks_ahead e.event || has_looked_ahead h

-- these main frames and inputs say the same as those of the script, as far as the past has read them
pub record ReadsAlike (s : ScriptModel) (h : List Entry) (main : List (List Command)) (inputs : List Input) : Type 0 where
  -- the main frames that were answered have the same commands
  pub answered : (k : ℕ) → k < counted answers h → commands_of (with_main_and_inputs s main inputs) k ≡ commands_of s k
  -- there are as many main frames as were sent
  pub sent : counted sends h ≤ length main
  -- the inputs that were used are the same
  pub used : (i : ℕ) → i < counted uses h → slice_get inputs i ≡ slice_get s.inputs i

-- the past tells the same of both scripts
pub record TellsAlike (s t : ScriptModel) (h : List Entry) : Type 0 where
  -- the pages of the main frames that were answered, what these frames changed, and the stamps of their tiles
  pub pages : (n : ℕ) → n ≤ counted answers h → page t (pulls_of h) n ≡ page s (pulls_of h) n
  pub frame_changes : (k : ℕ) → k < counted answers h → frame_changes t (pulls_of h) k ≡ frame_changes s (pulls_of h) k
  pub commits : (n : ℕ) → n ≤ counted answers h → commits_to t (pulls_of h) n ≡ commits_to s (pulls_of h) n
  pub stamps : (n : ℕ) → n ≤ counted answers h → stamp_in t (pulls_of h) n ≡ stamp_in s (pulls_of h) n
  -- the pages of the active and of the pending commit, and where the scrollers stand in them
  pub active_page : active_page t h ≡ active_page s h
  pub pending_page : pending_page t h ≡ pending_page s h
  pub clobbers : clobbers t (pending h) ≡ clobbers s (pending h)
  pub values : (sc : ℕ) (ax : Axis) → values t sc ax h ≡ values s sc ax h
  pub active_offsets : active_offsets t h ≡ active_offsets s h
  pub pending_offsets : pending_offsets t h ≡ pending_offsets s h
  -- the tiles: which are live, ready, required, pinned and missing, and which come first
  pub live : live_keys t h ≡ live_keys s h
  pub ready : ready t h ≡ ready s h
  pub required : required t h ≡ required s h
  pub pinned : pinned t h ≡ pinned s h
  pub missing : missing_visible t h ≡ missing_visible s h
  pub rank : rank t h ≡ rank s h
  pub choice : choice t h ≡ choice s h
  -- what the next send tells the main side, and what the next activation moves
  pub next_pulls : next_pulls t h ≡ next_pulls s h
  pub next_clamps : next_clamps t h ≡ next_clamps s h
