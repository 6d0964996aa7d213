-- Nothing is found in an empty map.
use Rattle.std.proofs.Common.{refl}
use Rattle.page_properties.specs.OffsetMap.{offset_at}
use Rattle.page_properties.proofs.offsets.Offsets.new.Goals as goal

pub returns : goal.returns
unfolding offset_at
returns c = λ id. rw c.new.ensures refl
