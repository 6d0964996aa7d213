-- The tiles are those of the history.
use Rattle.std.proofs.Common.{◌∙◌, ap}
use Rattle.model_history.specs.Tiles.{tiles_used}
use Rattle.impl_log.specs.Runs.{Run, past}
use Rattle.impl_core.proofs.core_state.Core.used.Goals as goal

pub returns : goal.returns
returns c =
    let r : Run = c.self.inside.log in
    c.used.ensures r.script r.workers (past r) c.is_legal.ensures.legal c.self.invariant.tiles ∙ ap (λ (z : Run). tiles_used z.script (past z)) c.self.view_is
