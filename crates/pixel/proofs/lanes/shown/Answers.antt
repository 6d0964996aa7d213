-- The bytes at even places and those at odd places, each in a lane of its own.
use Rattle.std.proofs.Common.{ℕ, ◌≡◌, ◌-◌, ◌*◌, ◌+◌, slice_index, arith, ap, ◌∙◌}
use Rattle.pixel.specs.Colours.{times_255}
use Rattle.pixel.specs.Rows.{alpha_place}
use Rattle.pixel.proofs.LaneWise.{by_halves, part_low}
use Rattle.pixel.proofs.lanes.shown.Goals as goal

pub returns-clause-lanes : goal.returns-clause-lanes
returns-clause-lanes c =
    let P : ℕ → Type 0 =
    λ i. slice_index c.bytes_of.result i ≡ times_255 (slice_index c.args.dst i) (255 - slice_index c.args.src (alpha_place i)) in
    by_halves P
    (λ j lt.
    c.bytes_of.ensures.even j lt
    ∙ c.products.ensures.lanes j lt
    ∙ ap (λ (n : ℕ). times_255 n (slice_index c.kept-kept.result j)) (c.low_bytes.ensures.lanes j lt)
    ∙ ap (times_255 (slice_index c.args.dst (2 * j))) (c.kept-kept.ensures.lanes j lt))
    (λ j lt.
    let same : alpha_place (2 * j) ≡ alpha_place (2 * j + 1) = omega arith in
    c.bytes_of.ensures.odd j lt
    ∙ c.products-2.ensures.lanes j lt
    ∙ ap (λ (n : ℕ). times_255 n (slice_index c.kept-kept.result j)) (c.high_bytes.ensures.lanes j lt)
    ∙ ap (times_255 (slice_index c.args.dst (2 * j + 1))) (c.kept-kept.ensures.lanes j lt)
    ∙ ap (λ (k : ℕ). times_255 (slice_index c.args.dst (2 * j + 1)) (255 - slice_index c.args.src k)) same)

pub returns-clause-low : goal.returns-clause-low
returns-clause-low c = λ i lt.
    let lane = returns-clause-lanes c i lt in
    let low = part_low (slice_index c.args.dst i) (255 - slice_index c.args.src (alpha_place i)) (c.requires.dst.bytes i lt) in
    omega arith
