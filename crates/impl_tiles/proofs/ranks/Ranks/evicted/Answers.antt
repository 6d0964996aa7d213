-- The queue that is made evicts the same keys.
use Rattle.impl_tiles.specs.Choices.{choice_among}
use Rattle.impl_tiles.proofs.AlikeChoices.{same_evicted}
use Rattle.impl_tiles.proofs.Bools.{of_answer}
use Rattle.impl_tiles.proofs.ranks.Ranks.evicted.Goals as goal

pub returns : goal.returns
returns c = of_answer c.evicted.result (λ keys given. same_evicted c.in_ok-queue.queue (choice_among c.args.store.now c.args.pins.now c.args.self.now) c.args.key keys c.in_ok-queue.ensures given) c.evicted.ensures.wanted
