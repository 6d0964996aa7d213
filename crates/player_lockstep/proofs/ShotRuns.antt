-- Runs of which the picture of the last draw is made a file.
use Rattle.std.proofs.Common.{◌≡◌, ℕ, ◌+◌, ◌-◌, List, [], ◌∷◌, ◌++◌, length, refl, ap, sym, ◌∙◌, subst, arith, length-append}
use Rattle.std.specs.Prelude.{Option, Some, None}
use Rattle.std.proofs.lemmas.List.{length-reverse}
use Rattle.viz_scene.specs.Views.{SceneView}
use Rattle.model_history.specs.declared.event.Event.{Event}
use Rattle.model_history.specs.declared.event.Event.TheVariants as event
use Rattle.model_history.specs.declared.history.Entry.{Entry}
use Rattle.model_history.specs.Legal.{Legal, Next}
use Rattle.model_history.specs.Scripts.{ScriptModel}
use Rattle.model_lockstep.proofs.Parts as parts
use Rattle.impl_log.specs.Runs.{Run, past}
use Rattle.proxy_single_thread.specs.Singles.{SingleModel, AddsScene, AreScenes}
use Rattle.player_lockstep.specs.Films.{image_or, last_image, IsLastImage}
use Rattle.recording_writer.specs.Files.{IsFileOf}
use Rattle.player_lockstep.specs.Shots.{IsShot}
use Rattle.thread_pieces.specs.Scenes.{scene_image}
use Rattle.player_lockstep.specs.inner.Shooting.{newest_image}
use Rattle.player_lockstep.specs.inner.Ways.{IsFresh}
use Rattle.player_lockstep.proofs.DrawnScenes.{draw_image}
use Rattle.player_lockstep.proofs.FilmedRuns.{fresh_past}

-- ---- scenes

-- the last scene is the newest, whatever was before
newest_last : (front : List SceneView) (scene : SceneView) (before : Option (List ℕ)) → newest_image (front ++ scene ∷ []) before ≡ Some (scene_image scene)
newest_last [] scene before = refl
newest_last (first ∷ front) scene before = newest_last front scene (Some (scene_image first))

-- an event more: its scene, if it is a draw
watched : (s : ScriptModel) (n : ℕ) (h : List Entry) (a : ℕ) (e : Event) (rest : List SceneView → Type 0) (scenes : List SceneView) (before mid : Option (List ℕ))
    → Next s n h (record { actor = a; event = e }) → AddsScene s h e rest scenes → ((zs : List SceneView) → rest zs → newest_image zs before ≡ mid) → newest_image scenes before ≡ image_or s h e mid
watched s n h a (event.Draw i lacks) rest scenes before mid next ends others =
    ap (λ (zs : List SceneView). newest_image zs before) ends.are
    ∙ newest_last ends.front ends.scene before
    ∙ ap (λ (z : List ℕ). Some z) (draw_image s n h a i lacks ends.scene next ends.picture)
watched s n h a _ rest scenes before mid next are others = others scenes are

-- the newest of the scenes of newer entries shows the last image
newer_watched : (s : ScriptModel) (n : ℕ) (h newer : List Entry) (scenes : List SceneView) → Legal s n (newer ++ h) → AreScenes s (length newer) (newer ++ h) scenes → newest_image scenes (last_image s h) ≡ last_image s (newer ++ h)
newer_watched s n h [] scenes legal are = ap (λ (zs : List SceneView). newest_image zs (last_image s h)) are
newer_watched s n h (e ∷ newer) scenes legal are =
    watched s n (newer ++ h) e.actor e.event (AreScenes s (length newer) (newer ++ h)) scenes (last_image s h) (last_image s (newer ++ h)) legal.1 are (λ zs rest. newer_watched s n h newer zs legal.0 rest)

pub news_watched : (r : Run) (written : ℕ) (newer h : List Entry) (scenes : List SceneView) → Legal r.script r.workers (past r) → AreScenes r.script (length r.entries - written) (past r) scenes
    → past r ≡ newer ++ h → written ≡ length h → newest_image scenes (last_image r.script h) ≡ last_image r.script (newer ++ h)
news_watched r written newer h scenes legal are is count =
    let size : length r.entries ≡ length newer + length h = sym (length-reverse r.entries) ∙ ap length is ∙ length-append newer h in
    let some : length r.entries - written ≡ length newer = omega (arith, size, count) in
    newer_watched r.script r.workers h newer scenes (subst (λ (z : List Entry). Legal r.script r.workers z) is legal)
    (subst (λ (k : ℕ). AreScenes r.script k (newer ++ h) scenes) some (subst (λ (z : List Entry). AreScenes r.script (length r.entries - written) z scenes) is are))

-- what was taken off the end is the newest, and where nothing could be taken the one before stays
pub newest_some : (scenes left : List SceneView) (scene : SceneView) (before : Option (List ℕ)) → scenes ≡ left ++ scene ∷ [] → Some (scene_image scene) ≡ newest_image scenes before
newest_some scenes left scene before is = sym (ap (λ (zs : List SceneView). newest_image zs before) is ∙ newest_last left scene before)

pub newest_none : (scenes : List SceneView) (before : Option (List ℕ)) → length scenes ≡ 0 → before ≡ newest_image scenes before
newest_none [] before none = refl
newest_none (scene ∷ scenes) before none = absurd (omega (arith, none))

-- ---- whole runs

pub fresh_image : (s : ScriptModel) (m : SingleModel) → IsFresh s m → None ≡ last_image m.run.script (past m.run)
fresh_image s m fresh = ap (λ (h : List Entry). last_image m.run.script h) (sym (fresh_past s m fresh))

-- the file of the last image, or none
pub shot_some : (s : ScriptModel) (scene : SceneView) (file : List ℕ) → IsLastImage s (Some (scene_image scene)) → IsFileOf (scene_image scene) file → IsShot s (Some file)
shot_some s scene file last is = (Some (scene_image scene), last, is)

pub shot_none : (s : ScriptModel) → IsLastImage s None → IsShot s None
shot_none s last = (None, last, tt)
