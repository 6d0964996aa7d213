-- The missing ones of the ranks so far.
use Rattle.std.proofs.Common.{◌≡◌, not, ◌&&◌, filter, take}
use Rattle.geom.specs.KeyLists.{has_key}
use Rattle.recording_judge.proofs.queues.missing.Given as goal

abbrev pub invariant-loop-rank : goal.invariant-loop-rank
invariant-loop-rank l = l.missing.items ≡ filter (λ r. not (has_key l.ready r.key) && not (has_key l.flying r.key)) (take l.rank-index l.ranks)
