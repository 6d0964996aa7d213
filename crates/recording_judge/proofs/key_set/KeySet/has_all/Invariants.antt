-- All keys so far are among them.
use Rattle.std.proofs.Common.{◌≡◌, true, take}
use Rattle.std.specs.List.{list_all}
use Rattle.geom.specs.KeyLists.{has_key}
use Rattle.recording_judge.proofs.key_set.KeySet.has_all.Given as goal

abbrev pub invariant-loop-key : goal.invariant-loop-key
invariant-loop-key l = list_all (has_key l.self) (take l.key-index l.keys) ≡ true
