-- The bytes at even places and those at odd places, each in a lane of its own.
use Rattle.std.proofs.Common.{ℕ, ◌≡◌, ◌*◌, ◌+◌, slice_index, ap, ◌∙◌}
use Rattle.std.specs.Prelude.{replicate}
use Rattle.std.proofs.lemmas.Simd.{get_or-replicate}
use Rattle.pixel.specs.Colours.{times_255}
use Rattle.pixel.proofs.LaneWise.{by_halves}
use Rattle.pixel.proofs.lanes.faded.Goals as goal

pub returns-clause-lanes : goal.returns-clause-lanes
returns-clause-lanes c =
    let P : ℕ → Type 0 = λ i. slice_index c.bytes_of.result i ≡ times_255 (slice_index c.args.v i) c.args.opacity in
    by_halves P
    (λ j lt.
    c.bytes_of.ensures.even j lt
    ∙ c.products.ensures.lanes j lt
    ∙ ap (λ (n : ℕ). times_255 n (slice_index (replicate 8 c.args.opacity) j)) (c.low_bytes.ensures.lanes j lt)
    ∙ ap (times_255 (slice_index c.args.v (2 * j))) (get_or-replicate 8 j c.args.opacity 0 lt))
    (λ j lt.
    c.bytes_of.ensures.odd j lt
    ∙ c.products-2.ensures.lanes j lt
    ∙ ap (λ (n : ℕ). times_255 n (slice_index (replicate 8 c.args.opacity) j)) (c.high_bytes.ensures.lanes j lt)
    ∙ ap (times_255 (slice_index c.args.v (2 * j + 1))) (get_or-replicate 8 j c.args.opacity 0 lt))
