-- What was put and what the images left give are all.
use Rattle.std.proofs.Common.{◌≡◌, ℕ, ◌≤◌, List, ◌++◌, length}
use Rattle.std.specs.List.{flat_map}
use Rattle.std.specs.Io.KnownBytes.{Appends}
use Rattle.recording_text.specs.Spans.{span_bytes, AreWithin}
use Rattle.player_uses.proofs.images.put_images.Given as goal

abbrev pub invariant-loop-span : goal.invariant-loop-span
invariant-loop-span g l =
    (done : List ℕ) × Appends (g.K.Sink.held l.fn.out) (g.K.Sink.held l.out) done
    × (done ++ flat_map (span_bytes l.bytes) l.rest ≡ flat_map (span_bytes l.bytes) l.spans)
    × AreWithin (length l.bytes) l.rest
    × (g.K.Sink.faults l.fn.out ≤ g.K.Sink.faults l.out)

abbrev pub decreases-loop-span : goal.decreases-loop-span
decreases-loop-span g l = length l.rest
