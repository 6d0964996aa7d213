use Rattle.page_layers.specs.Hits.{target}
use Rattle.page_layers.specs.Wheels.{takes_at, chain_at}
use Rattle.page_hit_test.proofs.Turns.{adds_across, adds_down}
use Rattle.page_hit_test.proofs.laws.parts_add_up.Goals as goal

pub returns-clause-across : goal.returns-clause-across
returns-clause-across c = λ p offset x y dx dy. adds_across (takes_at p offset) (chain_at p (target p offset x y)) dx dy

pub returns-clause-down : goal.returns-clause-down
returns-clause-down c = λ p offset x y dx dy. adds_down (takes_at p offset) (chain_at p (target p offset x y)) dx dy
