-- The pixels so far are those of the row.
use Rattle.std.proofs.Common.{◌≡◌, Some}
use Rattle.pixel.specs.Rows.{pixel}
use Rattle.model_history.specs.Recordings.{rgb}
use Rattle.recording_check.specs.inner.Behind.{behind_each}
use Rattle.recording_check.proofs.picture.behind_row.Given as goal

abbrev pub invariant-loop-x : goal.invariant-loop-x
invariant-loop-x l = behind_each l.x (λ x. rgb (pixel l.row x)) l.bytes ≡ Some l.rest
