-- Commits: the page after a main frame, and what the frame changed.
use Rattle.std.specs.Prelude.{◌≡◌, ◌<◌, ℕ, suc, List, length}
use Rattle.region.specs.Lists.{Changed}
use Rattle.page_layers.specs.Pages.{Page}
use Rattle.page_layers.specs.declared.moves.Move.{Move}
use Rattle.model_history.specs.Scripts.{ScriptModel}
use Rattle.model_history.specs.Frames.{page, pulls_in}
use Rattle.model_history.specs.Stamps.{frame_changes}
use Rattle.model_history.specs.SameChanges.{SameChanges}

-- what contracts see of a commit: its script, its main frame, the pulls of each frame up to it, the page, and the changes
pub record CommitModel : Type 0 where
  pub script : ScriptModel
  pub frame : ℕ
  pub sends : List (List Move)
  pub tree : Page
  pub changes : Changed

-- it is of a frame of the script: the page is the one after this frame, with these pulls, and the changes are those of all commands of the frame together
pub record IsCommit (c : CommitModel) : Type 0 where
  pub frame : c.frame < length c.script.main
  pub sends : length c.sends ≡ suc c.frame
  pub tree : c.tree ≡ page c.script (pulls_in c.sends) (suc c.frame)
  pub changes : SameChanges c.changes (frame_changes c.script (pulls_in c.sends) c.frame)
