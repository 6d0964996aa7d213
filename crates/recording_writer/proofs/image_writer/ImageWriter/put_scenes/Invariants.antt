-- What was put, and the images of the scenes that are left, are the images of all.
use Rattle.std.proofs.Common.{◌≡◌, ℕ, ◌≤◌, List, ◌++◌, length}
use Rattle.std.specs.Io.KnownBytes.{Appends}
use Rattle.std.specs.Vec.Iter.{into_iter_items, into_iter_len}
use Rattle.recording_writer.specs.Images.{scene_images}
use Rattle.recording_writer.proofs.image_writer.ImageWriter.put_scenes.Given as goal

abbrev pub invariant-loop-scene : goal.invariant-loop-scene
invariant-loop-scene g l = record {
  part : (gained : List ℕ) × (gained ++ scene_images (into_iter_items l.queue) ≡ scene_images l.fn.scenes.items) × Appends (g.K.Sink.held l.fn.out) (g.K.Sink.held l.out) gained;
  count : into_iter_len l.queue ≡ length (into_iter_items l.queue);
  grows : g.K.Sink.faults l.fn.out ≤ g.K.Sink.faults l.out;
}

abbrev pub decreases-loop-scene : goal.decreases-loop-scene
decreases-loop-scene g l = into_iter_len l.queue
