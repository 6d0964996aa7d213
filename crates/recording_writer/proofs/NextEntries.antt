-- One entry after another: what it adds, and the scene of its draw.
use Rattle.std.proofs.Common.{◌≡◌, ℕ, ◌+◌, List, ◌∷◌, ◌++◌, take, drop, Some, ap, sym, ◌∙◌, append_assoc, subst}
use Rattle.std.specs.Prelude.{reverse, slice_get}
use Rattle.viz_scene.specs.Views.{SceneView}
use Rattle.model_history.specs.declared.event.Event.{Event}
use Rattle.model_history.specs.declared.history.Entry.{Entry}
use Rattle.model_history.specs.Scripts.{ScriptModel}
use Rattle.model_history.specs.Recordings.{image_behind, piece, pieces}
use Rattle.model_history.specs.Texts.{event_line}
use Rattle.recording_writer.specs.Scenes.{left_behind, Comes, AllCome}
use Rattle.recording_writer.proofs.Places.{first_behind, newest_before}

-- the line of an event and what stands after it are its piece
pub piece_parts : (s : ScriptModel) (h : List Entry) (lines held : List ℕ) (e : Event) → held ≡ lines ++ event_line e → held ++ image_behind s h e ≡ lines ++ piece s h e
unfolding piece
piece_parts s h lines held e is = ap (λ (w : List ℕ). w ++ image_behind s h e) is ∙ append_assoc lines (event_line e) (image_behind s h e)

module _ (s : ScriptModel) (entries : List Entry) (at : ℕ) (e : Entry) (there : slice_get entries at ≡ Some e) where
  -- what the entries from a place on add is what the first of them does, and what the others do
  pub next_pieces : pieces s (reverse (take at entries)) (drop at entries) ≡ piece s (reverse (take at entries)) e.event ++ pieces s (reverse (take (at + 1) entries)) (drop (at + 1) entries)
  next_pieces =
      ap (λ (es : List Entry). pieces s (reverse (take at entries)) es) (first_behind entries at e there)
      ∙ ap (λ (h : List Entry). piece s (reverse (take at entries)) e.event ++ pieces s h (drop (at + 1) entries)) (sym (newest_before entries at e there))

  pub next_comes : (scenes : List SceneView) → AllCome s (reverse (take at entries)) (drop at entries) scenes
      → Comes s (reverse (take at entries)) e scenes × AllCome s (reverse (take (at + 1) entries)) (drop (at + 1) entries) (left_behind e.event scenes)
  next_comes scenes come =
      let both : AllCome s (reverse (take at entries)) (e ∷ drop (at + 1) entries) scenes = subst (λ (es : List Entry). AllCome s (reverse (take at entries)) es scenes) (first_behind entries at e there) come in
      (both.0, subst (λ (h : List Entry). AllCome s h (drop (at + 1) entries) (left_behind e.event scenes)) (sym (newest_before entries at e there)) both.1)
