-- The scenes of the draws among the newest entries give the images of those draws.
use Rattle.std.proofs.Common.{◌≡◌, ℕ, ◌-◌, ◌≤◌, List, [], ◌∷◌, ◌++◌, length, take, drop, refl, ap, sym, ◌∙◌, append_assoc, append-nil, subst, length-drop}
use Rattle.std.specs.Prelude.{reverse}
use Rattle.std.proofs.lemmas.List.{reverse-append, reverse-reverse, length-reverse, take-append-drop}
use mathlib.Core.List.{reverse_aux}
use Rattle.geom.specs.declared.tile.TileKey.{TileKey}
use Rattle.viz_scene.specs.Views.{SceneView}
use Rattle.model_history.specs.declared.event.Event.{Event}
use Rattle.model_history.specs.declared.event.Event.TheVariants as event
use Rattle.model_history.specs.declared.history.Entry.{Entry}
use Rattle.model_history.specs.Scripts.{ScriptModel}
use Rattle.model_history.specs.Legal.{Legal, Next}
use Rattle.model_history.specs.Recordings.{shown_image, image_behind}
use Rattle.impl_core.specs.Replies.{IsPicture}
use Rattle.impl_core.proofs.DrawnImages.{drawn_image}
use Rattle.proxy_single_thread.specs.Singles.{AddsScene, AreScenes}
use Rattle.thread_pieces.specs.Scenes.{scene_image, image_if}
use Rattle.recording_writer.specs.Scenes.{scene_of, left_behind, Comes, AllCome}
use Rattle.recording_writer.proofs.QuietEvents.{quiet_stays}

-- a draw that may come has the image of its picture after its line
pub draw_image : (s : ScriptModel) (n : ℕ) (h : List Entry) (a i : ℕ) (lacks : List TileKey) (scene : SceneView) → Next s n h (record { actor = a; event = event.Draw i lacks }) → IsPicture s h scene
    → scene_image scene ≡ shown_image s h lacks
unfolding scene_image
draw_image s n h a i lacks scene next is = drawn_image s n h a i lacks scene next is

-- an event that may come: its scene, if it is a draw, stands after those before it
record Added (s : ScriptModel) (h : List Entry) (e : Event) (rest : List SceneView → Type 0) (scenes back : List SceneView) : Type 0 where
  front : List SceneView
  here : List SceneView
  earlier : rest front
  split : scenes ++ back ≡ front ++ here
  image : image_if (scene_of e here) ≡ image_behind s h e
  left : left_behind e here ≡ back

added : (s : ScriptModel) (n : ℕ) (h : List Entry) (a : ℕ) (e : Event) (rest : List SceneView → Type 0) (scenes back : List SceneView)
    → Next s n h (record { actor = a; event = e }) → AddsScene s h e rest scenes → Added s h e rest scenes back
added s n h a (event.Draw i lacks) rest scenes back next ends = record {
  front = ends.front;
  here = ends.scene ∷ back;
  earlier = ends.earlier;
  split = ap (λ (zs : List SceneView). zs ++ back) ends.are ∙ append_assoc ends.front (ends.scene ∷ []) back;
  image = draw_image s n h a i lacks ends.scene next ends.picture;
  left = refl;
}
added s n h a _ rest scenes back next are = record { front = scenes; here = back; earlier = are; split = refl; image = refl; left = refl }

-- newer entries, the newest first, and later ones after them
module _ (s : ScriptModel) (n : ℕ) (h : List Entry) where
  turned : (newer later : List Entry) (scenes back : List SceneView) → Legal s n (newer ++ h) → AreScenes s (length newer) (newer ++ h) scenes
      → AllCome s (newer ++ h) later back → AllCome s h (reverse_aux newer later) (scenes ++ back)
  turned [] later scenes back legal are come = subst (λ (zs : List SceneView). AllCome s h later (zs ++ back)) (sym are) come
  turned (e ∷ newer) later scenes back legal are come =
      let x = added s n (newer ++ h) e.actor e.event (AreScenes s (length newer) (newer ++ h)) scenes back legal.1 are in
      let first : Comes s (newer ++ h) e x.here = record { image = x.image; stays = quiet_stays s n (newer ++ h) e legal } in
      let others : AllCome s (e ∷ (newer ++ h)) later (left_behind e.event x.here) = subst (λ (zs : List SceneView). AllCome s (e ∷ (newer ++ h)) later zs) (sym x.left) come in
      subst (λ (zs : List SceneView). AllCome s h (reverse_aux newer (e ∷ later)) zs) (sym x.split) (turned newer (e ∷ later) x.front x.here legal.0 x.earlier (first, others))

  -- entries after a past come with the scenes of their draws
  pub scenes_come : (news : List Entry) (scenes : List SceneView) → Legal s n (reverse news ++ h) → AreScenes s (length news) (reverse news ++ h) scenes → AllCome s h news scenes
  scenes_come news scenes legal are =
      let there = turned (reverse news) [] scenes [] legal (subst (λ (k : ℕ). AreScenes s k (reverse news ++ h) scenes) (sym (length-reverse news)) are) tt in
      subst (λ (zs : List SceneView). AllCome s h news zs) (append-nil scenes) (subst (λ (es : List Entry). AllCome s h es (scenes ++ [])) (reverse-reverse news) there)

-- and so do the entries after those that were written
pub news_come : (s : ScriptModel) (n : ℕ) (entries : List Entry) (written : ℕ) (scenes : List SceneView) → written ≤ length entries → Legal s n (reverse entries)
    → AreScenes s (length entries - written) (reverse entries) scenes → AllCome s (reverse (take written entries)) (drop written entries) scenes
news_come s n entries written scenes few legal are =
    let done : List Entry = take written entries in
    let news : List Entry = drop written entries in
    let past : reverse entries ≡ reverse news ++ reverse done = ap (λ (es : List Entry). reverse es) (sym (take-append-drop written entries)) ∙ reverse-append done news in
    let some : length entries - written ≡ length news = sym (length-drop written entries) in
    scenes_come s n (reverse done) news scenes (subst (λ (h : List Entry). Legal s n h) past legal)
    (subst (λ (k : ℕ). AreScenes s k (reverse news ++ reverse done) scenes) some (subst (λ (h : List Entry). AreScenes s (length entries - written) h scenes) past are))
