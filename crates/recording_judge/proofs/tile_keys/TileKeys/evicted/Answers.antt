-- Alike choices give up the same keys.
use Rattle.std.proofs.Common.{sym, ◌∙◌, ap}
use Rattle.std.specs.Prelude.{option_copied}
use Rattle.page_layers.proofs.KeptPages.{weaken}
use Rattle.recording_judge.proofs.TileSteps.{evicted_told}
use Rattle.recording_judge.proofs.tile_keys.TileKeys.evicted.Goals as goal

pub returns : goal.returns
returns c = λ s n h r holds is_first is_key.
    weaken c.evicted.result
    (λ keys given. evicted_told s h c.args.self.now.queue c.in-Some.queue.now c.args.key keys r holds.queue (sym c.as_ref.ensures.value ∙ ap option_copied c.in-Some.is) is_first is_key given)
    c.evicted.ensures.wanted
