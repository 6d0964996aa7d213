-- The components stand in turn.
use Rattle.pixel.proofs.LaneWise.{four_pixels}
use Rattle.pixel.proofs.lanes.four_pixels.Goals as goal

pub returns-clause-lanes : goal.returns-clause-lanes
returns-clause-lanes c = λ i lt.
    four_pixels c.args.colour (record { r = c.r-r.result; g = c.g-g.result; b = c.b-b.result; a = c.a-a.result }) i c.r-r.ensures.value
    c.g-g.ensures.value c.b-b.ensures.value c.a-a.ensures lt
