-- What the main side hands over for a main frame.
use Rattle.std.specs.Prelude.{◌≡◌, ℕ, suc, List, Some}
use Rattle.region.specs.Lists.{Changed}
use Rattle.page_layers.specs.Pages.{Page}
use Rattle.page_layers.specs.declared.moves.Move.{Move}
use Rattle.model_history.specs.Scripts.{ScriptModel}
use Rattle.model_history.specs.Frames.{page}
use Rattle.model_history.specs.Stamps.{frame_changes}
use Rattle.model_history.specs.Scrolls.{clobbers}
use Rattle.model_history.specs.SameChanges.{SameChanges}
use Rattle.impl_scroll.specs.Rows.{has_number}

-- it is the page after this frame, where `ps` are the pulls of each frame, the changes are those of all commands of the frame together, and these are the scrollers that the frame sets outright
pub record IsPreparedFor (s : ScriptModel) (ps : ℕ → List Move) (k : ℕ) (p : Page) (d : Changed) (outright : List ℕ) : Type 0 where
  pub page : p ≡ page s ps (suc k)
  pub changes : SameChanges d (frame_changes s ps k)
  pub outright_are : (sc : ℕ) → has_number outright sc ≡ clobbers s (Some k) sc
