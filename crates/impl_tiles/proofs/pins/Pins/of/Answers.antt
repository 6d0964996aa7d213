-- Sorting keeps the keys.
use Rattle.std.proofs.Common.{ap, ◌∙◌}
use Rattle.geom.specs.KeyLists.{has_key}
use Rattle.impl_tiles.proofs.PinFacts.{same_keys}
use Rattle.impl_tiles.proofs.pins.Pins.of.Goals as goal

pub returns : goal.returns
returns c = λ q.
    same_keys c.in_ok-keys.keys.items c.sort_unstable.new.self.items q c.sort_unstable.ensures.permutation
    ∙ ap (λ keys. has_key keys q) (c.in_ok-keys.ensures.items ∙ c.as_slice.ensures)
