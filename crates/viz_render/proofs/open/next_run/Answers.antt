-- The blocks before the first open one are hidden, and one block at least is passed.
use Rattle.std.proofs.Common.{◌+◌, ◌*◌, ◌/◌, slice_index, arith}
use Rattle.std.proofs.lemmas.Int.{clamps}
use Rattle.viz_render.specs.inner.Masks.{top}
use Rattle.viz_render.proofs.OpenSteps.{is_above}
use Rattle.viz_render.proofs.open.next_run.Goals as goal

pub returns-clause-hidden : goal.returns-clause-hidden
unfolding top
returns-clause-hidden c = λ x low high.
    is_above (slice_index c.args.tops.now (c.args.at.y / 8 * 129 + x / 16)) c.args.number
    (c.hidden_until-first_seen.ensures.hidden (c.args.at.y / 8 * 129 + x / 16) (omega arith) (omega (arith, clamps)))
