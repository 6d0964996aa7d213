-- An image more was put, or a prefix of it.
use Rattle.std.proofs.Common.{◌≡◌, List, ◌∷◌, ◌++◌, rules, arith}
use Rattle.std.specs.Vec.Iter.{into_iter_items}
use Rattle.viz_scene.specs.Views.{SceneView}
use Rattle.recording_writer.specs.Images.{scene_images}
use Rattle.thread_pieces.specs.Scenes.{scene_image}
use Rattle.recording_writer.proofs.Gains.{scene_put}
use Rattle.thread_pieces.proofs.Gains.{gains_both, gains_front}
use Rattle.recording_writer.proofs.image_writer.ImageWriter.put_scenes.Goals as goal

pub returns-in-Err-clause-bytes : goal.returns-in-Err-clause-bytes
returns-in-Err-clause-bytes g c =
    let part = c.loop-scene.invariant.part in
    let left : List SceneView = into_iter_items c.next.new.self in
    let first : into_iter_items c.loop-scene.queue ≡ c.in-Some.scene ∷ left = search rules in
    gains_front _ _ _ part.0 (scene_image c.in-Some.scene) (scene_images left) _ part.2 c.in-Err.ensures.bytes (scene_put _ left c.in-Some.scene part.0 _ first part.1)

pub loop-scene-preserved : goal.loop-scene-preserved
loop-scene-preserved g c =
    let part = c.loop-scene.invariant.part in
    let left : List SceneView = into_iter_items c.next.new.self in
    let first : into_iter_items c.loop-scene.queue ≡ c.in-Some.scene ∷ left = search rules in
    record {
      part = (part.0 ++ scene_image c.in-Some.scene, scene_put _ left c.in-Some.scene part.0 _ first part.1, gains_both _ _ _ part.0 (scene_image c.in-Some.scene) part.2 c.in_default-put_scene.ensures.bytes);
      count = search rules;
      grows = omega (arith, c.in_default-put_scene.ensures.grows, c.loop-scene.invariant.grows);
    }
