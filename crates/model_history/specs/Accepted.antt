-- Which scripts can be played, and which are accepted: every command is taken, in order, from the blank page on, without pulls.
use Rattle.std.specs.Prelude.{◌≡◌, ◌<◌, ◌-◌, ◌^◌, true, List, [], ◌∷◌, length}
use Rattle.std.specs.List.{list_all}
use Rattle.page_layers.specs.declared.command.Command.{Command}
use Rattle.page_layers.specs.Pages.{Page}
use Rattle.page_layers.specs.Effects.{page_after_command, commanded}
use Rattle.page_layers.specs.Outcomes.{Accepts}
use Rattle.model_history.specs.Scripts.{ScriptModel}
use Rattle.model_history.specs.Ranges.{head_in_range, input_in_range, is_in_ranges}
use Rattle.model_history.specs.Frames.{blank}

-- the page takes these commands one after another
abbrev pub TakesAll : Page → List Command → Type 0
TakesAll p [] = Unit {0}
TakesAll p (c ∷ cs) = Accepts p c × TakesAll (page_after_command p c) cs

-- it takes the commands of these main frames, one frame after another
abbrev pub TakesFrames : Page → List (List Command) → Type 0
TakesFrames p [] = Unit {0}
TakesFrames p (f ∷ fs) = TakesAll p f × TakesFrames (commanded f p) fs

-- a script that can be played, however long it is: its head is in its ranges, its main frames and its inputs can be counted in 32 bits, each number of an input is in its range, and the blank page takes its main frames
pub record IsPlayable (s : ScriptModel) : Type 0 where
  pub head : head_in_range s ≡ true
  pub few_frames : length s.main < 2 ^ 32 - 1
  pub few_inputs : length s.inputs < 2 ^ 32 - 1
  pub inputs : list_all (input_in_range (length s.main)) s.inputs ≡ true
  pub commands : TakesFrames (blank s) s.main

-- a script of the format: its numbers are in their ranges, and the blank page takes its main frames
pub record IsAccepted (s : ScriptModel) : Type 0 where
  pub ranges : is_in_ranges s ≡ true
  pub commands : TakesFrames (blank s) s.main
