-- The fragments put so far and those that are left are all.
use Rattle.std.proofs.Common.{◌≡◌, ℕ, ◌≤◌, List, ◌++◌, length}
use Rattle.std.specs.List.{flat_map}
use Rattle.std.specs.Io.KnownBytes.{Appends}
use Rattle.player_uses.specs.inner.Fragments.{fragment_text}
use Rattle.player_uses.proofs.fragments.put_fragments.Given as goal

abbrev pub invariant-loop-fragment : goal.invariant-loop-fragment
invariant-loop-fragment g l =
    (done : List ℕ) × Appends (g.K.Sink.held l.fn.out) (g.K.Sink.held l.out) done × (done ++ flat_map fragment_text l.rest ≡ flat_map fragment_text l.fragments)
    × (g.K.Sink.faults l.fn.out ≤ g.K.Sink.faults l.out) × (g.K.Sink.refusals l.fn.out ≤ g.K.Sink.refusals l.out)

abbrev pub decreases-loop-fragment : goal.decreases-loop-fragment
decreases-loop-fragment g l = length l.rest
