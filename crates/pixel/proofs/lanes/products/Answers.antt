-- No lane's product or sum passes sixteen bits.
use Rattle.std.proofs.Common.{◌<◌, slice_index, sym, subst}
use Rattle.pixel.proofs.LaneWise.{raised_count, product_lane, product_part}
use Rattle.pixel.proofs.lanes.products.Goals as goal

pub upper_halves-requires : goal.upper_halves-requires
upper_halves-requires c = raised_count c.args.x c.args.y c.requires.x.count c.requires.y.count

pub returns-clause-lanes : goal.returns-clause-lanes
returns-clause-lanes c = λ j lt. product_lane c.args.x c.args.y c.upper_halves.result j c.requires.x c.requires.y lt (c.upper_halves.ensures.lanes j lt)

pub returns-clause-parts : goal.returns-clause-parts
returns-clause-parts c = record {
  count = c.upper_halves.ensures.len;
  parts = λ j lt.
      subst (λ n. n < 256) (sym (returns-clause-lanes c j lt))
      (product_part (slice_index c.args.x j) (slice_index c.args.y j) (c.requires.x.parts j lt) (c.requires.y.parts j lt));
}
