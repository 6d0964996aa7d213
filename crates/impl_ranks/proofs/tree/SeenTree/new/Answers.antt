use Rattle.page_properties.specs.OffsetMap.{offset_at}
use Rattle.impl_ranks.proofs.VisibleKeys.{are_layers}
use Rattle.impl_ranks.proofs.tree.SeenTree.new.Goals as goal

pub returns : goal.returns
returns c = λ t is. record { page = is.page; layers = are_layers t c.args.page.now (offset_at c.args.offsets.now) c.args.tilings.now c.in_ok-layers.layers.items is c.in_ok-layers.ensures }
