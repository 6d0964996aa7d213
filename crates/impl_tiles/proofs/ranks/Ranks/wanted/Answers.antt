-- The queue that is made wants the same ranks.
use Rattle.std.proofs.Common.{◌∙◌, ap, take}
use Rattle.impl_tiles.specs.Choices.{choice_among}
use Rattle.impl_tiles.proofs.AlikeChoices.{same_wanted}
use Rattle.impl_tiles.proofs.Bools.{of_answer}
use Rattle.impl_tiles.proofs.ranks.Ranks.wanted.Goals as goal

pub returns : goal.returns
returns c = of_answer c.wanted.result (λ ranks given. given ∙ ap (take c.args.most) (same_wanted c.in_ok-queue.queue (choice_among c.args.store.now c.args.pins.now c.args.self.now) c.in_ok-queue.ensures)) c.wanted.ensures
