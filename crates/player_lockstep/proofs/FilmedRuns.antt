-- Runs of which the images alone are written.
use Rattle.std.proofs.Common.{◌≡◌, ℕ, ◌+◌, ◌-◌, List, [], ◌∷◌, ◌++◌, length, refl, ap, sym, ◌∙◌, append_assoc, append-nil, subst, arith, length-append}
use Rattle.std.specs.Prelude.{reverse, Option}
use Rattle.std.specs.Io.KnownBytes.{Appends}
use Rattle.std.proofs.lemmas.Grind.{flat_map-append}
use Rattle.std.proofs.lemmas.List.{reverse-append, reverse-reverse, length-reverse}
use Rattle.byte_io.specs.Pieces.{GainsPrefix}
use Rattle.viz_scene.specs.Views.{SceneView}
use Rattle.model_history.specs.declared.event.Event.{Event}
use Rattle.model_history.specs.declared.event.Event.TheVariants as event
use Rattle.model_history.specs.declared.history.Entry.{Entry}
use Rattle.model_history.specs.Accepted.{IsAccepted}
use Rattle.model_history.proofs.Ranged.{playable}
use Rattle.model_history.specs.Legal.{Legal, Next}
use Rattle.model_history.specs.Lockstep.{IsLockstep}
use Rattle.model_history.specs.Recordings.{image_behind}
use Rattle.model_history.specs.Scripts.{ScriptModel}
use Rattle.model_lockstep.specs.Walks.{BeginsLockstep}
use Rattle.model_lockstep.proofs.Parts as parts
use Rattle.model_lockstep.proofs.Wholes.{lockstep_there}
use Rattle.impl_log.specs.Runs.{Run, past}
use Rattle.proxy_single_thread.specs.Singles.{SingleModel, AddsScene, AreScenes}
use Rattle.player_lockstep.specs.Films.{images_before, film, IsLockstepFilm}
use Rattle.recording_writer.specs.Images.{scene_images}
use Rattle.player_lockstep.specs.inner.Filming.{newer_images}
use Rattle.thread_pieces.specs.Scenes.{scene_image}
use Rattle.player_lockstep.specs.inner.Ways.{IsFresh}
use Rattle.player_lockstep.proofs.DrawnScenes.{draw_image}
use Rattle.thread_pieces.proofs.Gains.{appends_nothing, gains_nothing, gains_longer}

-- ---- scenes

-- the scenes up to an event: those before it, and its image
record Shown (s : ScriptModel) (h : List Entry) (e : Event) (rest : List SceneView → Type 0) (scenes : List SceneView) : Type 0 where
  front : List SceneView
  earlier : rest front
  same : scene_images scenes ≡ scene_images front ++ image_behind s h e

shown : (s : ScriptModel) (n : ℕ) (h : List Entry) (a : ℕ) (e : Event) (rest : List SceneView → Type 0) (scenes : List SceneView)
    → Next s n h (record { actor = a; event = e }) → AddsScene s h e rest scenes → Shown s h e rest scenes
shown s n h a (event.Draw i lacks) rest scenes next ends = record {
  front = ends.front;
  earlier = ends.earlier;
  same =
      ap (λ (zs : List SceneView). scene_images zs) ends.are
      ∙ flat_map-append scene_image ends.front (ends.scene ∷ [])
      ∙ ap (λ (z : List ℕ). scene_images ends.front ++ z) (append-nil (scene_image ends.scene) ∙ draw_image s n h a i lacks ends.scene next ends.picture);
}
shown s n h a _ rest scenes next are = record { front = scenes; earlier = are; same = sym (append-nil (scene_images scenes)) }

-- the scenes of newer entries show their images
pub newer_shown : (s : ScriptModel) (n : ℕ) (h newer : List Entry) (scenes : List SceneView) → Legal s n (newer ++ h) → AreScenes s (length newer) (newer ++ h) scenes → scene_images scenes ≡ newer_images s newer h
newer_shown s n h [] scenes legal are = ap (λ (zs : List SceneView). scene_images zs) are
newer_shown s n h (e ∷ newer) scenes legal are =
    let x = shown s n (newer ++ h) e.actor e.event (AreScenes s (length newer) (newer ++ h)) scenes legal.1 are in
    x.same ∙ ap (λ (z : List ℕ). z ++ image_behind s (newer ++ h) e.event) (newer_shown s n h newer x.front legal.0 x.earlier)

-- the images of a past and of newer entries
pub images_grow : (s : ScriptModel) (newer h : List Entry) → images_before s (newer ++ h) ≡ images_before s h ++ newer_images s newer h
images_grow s [] h = sym (append-nil (images_before s h))
images_grow s (e ∷ newer) h =
    ap (λ (z : List ℕ). z ++ image_behind s (newer ++ h) e.event) (images_grow s newer h)
    ∙ append_assoc (images_before s h) (newer_images s newer h) (image_behind s (newer ++ h) e.event)

-- the scenes of what was entered since the last time show its images
pub news_shown : (r : Run) (written : ℕ) (newer h : List Entry) (scenes : List SceneView) → Legal r.script r.workers (past r) → AreScenes r.script (length r.entries - written) (past r) scenes
    → past r ≡ newer ++ h → written ≡ length h → scene_images scenes ≡ newer_images r.script newer h
news_shown r written newer h scenes legal are is count =
    let size : length r.entries ≡ length newer + length h = sym (length-reverse r.entries) ∙ ap length is ∙ length-append newer h in
    let some : length r.entries - written ≡ length newer = omega (arith, size, count) in
    newer_shown r.script r.workers h newer scenes (subst (λ (z : List Entry). Legal r.script r.workers z) is legal)
    (subst (λ (k : ℕ). AreScenes r.script k (newer ++ h) scenes) some (subst (λ (z : List Entry). AreScenes r.script (length r.entries - written) z scenes) is are))

-- ---- whole runs

-- the images of what was played begin those of the history that it begins
pub begun_film : (s : ScriptModel) (old new : Option (List ℕ)) (played : List Entry) → BeginsLockstep s (reverse played) → GainsPrefix old new (images_before s played)
    → (whole : List ℕ) × IsLockstepFilm s whole × GainsPrefix old new whole
begun_film s old new played begins front =
    let later : List Entry = begins.0 in
    let turned : reverse (reverse played ++ later) ≡ reverse later ++ played = reverse-append (reverse played) later ∙ ap (λ (z : List Entry). reverse later ++ z) (reverse-reverse played) in
    let whole : film s (reverse played ++ later) ≡ images_before s played ++ newer_images s (reverse later) played = ap (λ (z : List Entry). images_before s z) turned ∙ images_grow s (reverse later) played in (
      film s (reverse played ++ later),
      (reverse played ++ later, begins.1, refl),
      subst (λ (w : List ℕ). GainsPrefix old new w) (sym whole) (gains_longer old new (images_before s played) (newer_images s (reverse later) played) front),
    )

pub whole_film : (s : ScriptModel) (old new : Option (List ℕ)) (h : List Entry) → IsLockstep s (reverse h) → Appends old new (images_before s h) → (whole : List ℕ) × IsLockstepFilm s whole × Appends old new whole
whole_film s old new h lockstep gained =
    (film s (reverse h), (reverse h, lockstep, refl), subst (λ (z : List Entry). Appends old new (images_before s z)) (sym (reverse-reverse h)) gained)

pub films_nothing : (s : ScriptModel) (held : Option (List ℕ)) → IsAccepted s → (whole : List ℕ) × IsLockstepFilm s whole × GainsPrefix held held whole
films_nothing s held accepted =
    let l = lockstep_there s (playable s accepted) in
    (film s l.0, (l.0, l.1, refl), gains_nothing held (film s l.0))

-- a compositor before anything was entered
pub fresh_script : (s : ScriptModel) (m : SingleModel) → IsFresh s m → m.run.script ≡ s
fresh_script s m fresh = ap (λ (z : SingleModel). z.run.script) fresh.1

pub fresh_past : (s : ScriptModel) (m : SingleModel) → IsFresh s m → past m.run ≡ []
fresh_past s m fresh = ap (λ (z : SingleModel). past z.run) fresh.1

pub fresh_all : (s : ScriptModel) (m : SingleModel) → IsFresh s m → m.written ≡ length m.run.entries
fresh_all s m fresh = subst (λ (z : SingleModel). z.written ≡ length z.run.entries) (sym fresh.1) refl

pub fresh_images : (s : ScriptModel) (m : SingleModel) (held : Option (List ℕ)) → IsFresh s m → Appends held held (images_before m.run.script (past m.run))
fresh_images s m held fresh = subst (λ (h : List Entry). Appends held held (images_before m.run.script h)) (sym (fresh_past s m fresh)) (appends_nothing held)
