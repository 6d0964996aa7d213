-- Nothing is ready, pinned or held.
use Rattle.std.proofs.Common.{refl}
use Rattle.recording_judge.proofs.TileSteps.{begins}
use Rattle.recording_judge.proofs.tile_keys.TileKeys.new.Goals as goal

pub returns : goal.returns
returns c = λ s. begins s c.args.workers _ c.new.ensures c.new-2.ensures c.in_ok-held.ensures refl
