-- Those of the keys so far.
use Rattle.std.proofs.Common.{◌≡◌, not, filter, take}
use Rattle.geom.specs.KeyLists.{has_key}
use Rattle.recording_judge.proofs.key_set.KeySet.lacking.Given as goal

abbrev pub invariant-loop-key : goal.invariant-loop-key
invariant-loop-key l = l.lacking ≡ filter (λ q. not (has_key l.self q)) (take l.key-index l.keys)
