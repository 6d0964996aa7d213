-- Alike choices have the same first rank.
use Rattle.std.proofs.Common.{sym, ◌∙◌, ap}
use Rattle.std.specs.Prelude.{option_copied}
use Rattle.recording_judge.proofs.TileSteps.{first_told}
use Rattle.recording_judge.proofs.tile_keys.TileKeys.first.Goals as goal

pub returns : goal.returns
returns c = λ s n h holds. first_told s h c.args.self.now.queue c.in-Some.queue.now c.first.result holds.queue (sym c.as_ref.ensures.value ∙ ap option_copied c.in-Some.is) c.first.ensures.key
