-- The main side: which frames it has ended, and how it ends the next.
use Rattle.std.specs.Prelude.{◌≡◌, ◌≤◌, ◌<◌, ℕ, suc, true, false, List, [], ◌∷◌, ◌++◌, length, Option, Some, None, Result, Ok, Err}
use Rattle.std.specs.declared.alloc.AllocError.{AllocError}
use Rattle.region.specs.Lists.{Changed}
use Rattle.page_layers.specs.Pages.{Page}
use Rattle.page_layers.specs.declared.moves.Move.{Move}
use Rattle.model_history.specs.Scripts.{ScriptModel}
use Rattle.model_history.specs.Frames.{blank, page, pulls_in, changes}
use Rattle.model_history.specs.Stamps.{frame_changes}
use Rattle.model_history.specs.SameChanges.{SameChanges}
use Rattle.model_history.specs.Commits.{CommitModel, IsCommit}
use Rattle.main_host.specs.declared.main_end.MainEnd.{MainEnd}
use Rattle.main_host.specs.declared.main_end.MainEnd.TheVariants as end

-- what contracts see of the main side: its script, and the pulls of each frame that it has ended
pub record MainHostModel : Type 0 where
  pub script : ScriptModel
  pub sends : List (List Move)

-- it has ended no more frames than the script has, and its tree is the page after them
pub record IsHost (s : ScriptModel) (sends : List (List Move)) (p : Page) : Type 0 where
  pub few : length sends ≤ length s.main
  pub tree : p ≡ page s (pulls_in sends) (length sends)

-- it has run the first n frames of the script, with these pulls
pub record HasRun (s : ScriptModel) (ps : ℕ → List Move) (n : ℕ) (host : MainHostModel) : Type 0 where
  pub script : host.script ≡ s
  pub count : length host.sends ≡ n
  pub each : (k : ℕ) → k < n → pulls_in host.sends k ≡ ps k

-- the page that the main side keeps; the script's first page while it keeps none
abbrev pub page_or_blank : ScriptModel → Option Page → Page
page_or_blank s None = blank s
page_or_blank s (Some p) = p

-- the same with one frame more, which got these pulls
abbrev pub with_frame : MainHostModel → List Move → MainHostModel
with_frame h ms = record { script = h.script; sends = h.sends ++ ms ∷ [] }

-- the commit of the last frame that the main side has ended, which has this number
pub record IsCommitOf (h : MainHostModel) (k : ℕ) (c : CommitModel) : Type 0 where
  pub script : c.script ≡ h.script
  pub frame : c.frame ≡ k
  pub sends : c.sends ≡ h.sends
  pub commit : IsCommit c

-- how the next frame ends, with these pulls: by its commit exactly if it changes something, else by an abort
abbrev pub IsEnd : MainHostModel → List Move → MainEnd → Type 0
IsEnd h ms (end.Ready c) = (changes h.script (pulls_in (h.sends ++ ms ∷ [])) (length h.sends) ≡ true) × IsCommitOf (with_frame h ms) (length h.sends) c
IsEnd h ms (end.Abort frame) = (changes h.script (pulls_in (h.sends ++ ms ∷ [])) (length h.sends) ≡ false) × (frame ≡ length h.sends)

-- the next frame was ended so; or memory ran out, and nothing was ended
abbrev pub EndsNextFrame : MainHostModel → List Move → MainHostModel → Result MainEnd AllocError → Type 0
EndsNextFrame old ms new (Ok e) = (new ≡ with_frame old ms) × IsEnd old ms e
EndsNextFrame old ms new (Err e) = new ≡ old

-- the next frame, which has this number, led from the one page to the other with these pulls, and changed this
pub record IsNext (h : MainHostModel) (ms : List Move) (k : ℕ) (p q : Page) (done : Changed) : Type 0 where
  pub left : k < length h.script.main
  pub frame : k ≡ length h.sends
  pub before : p ≡ page h.script (pulls_in (h.sends ++ ms ∷ [])) k
  pub after : q ≡ page h.script (pulls_in (h.sends ++ ms ∷ [])) (suc k)
  pub changes : SameChanges done (frame_changes h.script (pulls_in (h.sends ++ ms ∷ [])) k)
