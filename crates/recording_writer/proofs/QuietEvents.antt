-- A quiet event leaves what the screen shows as it is.
use Rattle.std.proofs.Common.{◌≡◌, ℕ, pos, true, List, ◌∷◌, refl, ap}
use Rattle.geom.specs.declared.tile.TileKey.{TileKey}
use Rattle.page_layers.specs.TreePainting.{paint}
use Rattle.model_history.specs.declared.event.Event.{Event}
use Rattle.model_history.specs.declared.event.Event.TheVariants as event
use Rattle.model_history.specs.declared.history.Entry.{Entry}
use Rattle.model_history.specs.Scripts.{ScriptModel}
use Rattle.model_history.specs.Tiles.{Tree, active_tree}
use Rattle.model_history.specs.Legal.{Legal}
use Rattle.model_history.specs.Recordings.{image, shown_image}
use Rattle.model_history.proofs.DueFacts.{entry}
use Rattle.model_steps.proofs.TreesAfter.{send_active, abort_active, commit_active}
use Rattle.recording_writer.specs.Repeats.{is_quiet, StaysShown}

-- the active tree stays
active_stays : (s : ScriptModel) (n : ℕ) (h : List Entry) (a : ℕ) (e : Event) → Legal s n (entry a e ∷ h) → is_quiet e ≡ true → active_tree s (entry a e ∷ h) ≡ active_tree s h
active_stays s n h a (event.Activate k clamps) legal quiet = absurd cc
active_stays s n h a (event.Scroll i dx dy) legal quiet = absurd cc
active_stays s n h a (event.Wheel i target rest_x rest_y parts) legal quiet = absurd cc
active_stays s n h a (event.Send k pulls) legal quiet = send_active s n h a k pulls legal
active_stays s n h a (event.Abort k) legal quiet = abort_active s n h a k legal
active_stays s n h a (event.Commit k) legal quiet = commit_active s n h a k legal
active_stays s n h a _ legal quiet = refl

-- the image of a tree
abbrev tree_image : ScriptModel → List TileKey → Tree → List ℕ
tree_image s missing t = image (λ x y. paint t.page t.offset missing s.background (pos x) (pos y)) t.page.view.w t.page.view.h

-- so what the screen shows does
pub quiet_stays : (s : ScriptModel) (n : ℕ) (h : List Entry) (e : Entry) → Legal s n (e ∷ h) → StaysShown s h e
unfolding shown_image
quiet_stays s n h e legal quiet missing = ap (λ (t : Tree). tree_image s missing t) (active_stays s n h e.actor e.event legal quiet)
