-- One layer more.
use Rattle.std.proofs.Common.{arith, rules}
use Rattle.page_properties.specs.OffsetMap.{offset_at}
use Rattle.impl_ranks.proofs.VisibleKeys.{as_many, layer_cut, seen_next}
use Rattle.impl_ranks.proofs.tree.layers_of.Goals as goal

pub new-requires-clause-cut : goal.new-requires-clause-cut
new-requires-clause-cut c =
    layer_cut c.args.page.now c.args.tilings.now c.layers-all.result.now c.loop-i.i c.index-all-i.result c.index-tilings-i.result c.requires.cut c.layers-all.ensures (search rules) c.index-all-i.is c.index-tilings-i.is

pub loop-i-preserved : goal.loop-i-preserved
loop-i-preserved c =
    let n = as_many c.args.page.now c.args.tilings.now c.layers-all.result.now c.requires.cut c.layers-all.ensures in
    seen_next c.args.page.now (offset_at c.args.offsets.now) c.layers-all.result.now c.args.tilings.now c.loop-i.layers.items c.push.new.self.items c.loop-i.i c.index-all-i.result c.index-tilings-i.result c.new.result (search rules) (omega (arith, n, c.loop-i-test.true)) c.index-all-i.is c.index-tilings-i.is
    c.loop-i.invariant c.new.ensures.seen c.new.ensures.stamps (search rules)
