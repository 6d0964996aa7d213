-- Each byte has its halves from two lanes that are neighbours.
use Rattle.std.proofs.Common.{◌∙◌, slice_index}
use Rattle.std.specs.Prelude.{replicate}
use Rattle.std.specs.Simd.Lanes.{zip2}
use Rattle.std.proofs.lemmas.Simd.{pick_l_left}
use Rattle.script_fields.proofs.Eights.{evens, odds, sum_8, product_8, joined_lane}
use Rattle.script_fields.proofs.hex.joined.Goals as goal

pub returns-clause-bytes : goal.returns-clause-bytes
returns-clause-bytes c =
    let v = c.args.values in
    let e = pick_l_left 0 v v 16 evens c.requires.size tt in
    let o = pick_l_left 0 v v 16 odds c.requires.size tt in
    λ j lt. (λ i. slice_index (zip2 sum_8 (zip2 product_8 (e i) (replicate 8 16)) (o i)) j) ∙ joined_lane v c.requires.low j lt
