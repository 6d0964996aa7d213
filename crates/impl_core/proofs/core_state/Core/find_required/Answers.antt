-- The keys are kept.
use Rattle.std.proofs.Common.{◌≡◌, Some, sym, ◌∙◌, ap, subst}
use Rattle.model_history.specs.Tiles.{ready, required, are_ready}
use Rattle.impl_log.specs.Runs.{Run, past}
use Rattle.impl_core.proofs.CoreSteps.{with_required}
use Rattle.impl_core.proofs.NeedSteps.{found}
use Rattle.impl_core.proofs.core_state.Core.find_required.Goals as goal

pub returns-clause-ready : goal.returns-clause-ready
returns-clause-ready c =
    let r : Run = c.self.inside.log in
    c.are_ready-ready.ensures r.script (past r) c.self.invariant.tiles
    ∙ (ap (are_ready r.script (past r)) c.in_ok-required.ensures ∙ ap (λ (z : Run). are_ready z.script (past z) (required c.args.self.now.script (past c.args.self.now))) c.self.view_is)

pub invariant_of-self : goal.invariant_of-self
invariant_of-self c =
    let r : Run = c.self.inside.log in
    with_required r.script (past r) (record { host = c.self.inside.host; tiles = c.self.inside.tiles; told = c.self.inside.told; prepared = c.self.inside.prepared; required = c.self.inside.required; drawn = c.self.inside.drawn }) (record { keys = Some c.in_ok-required.required; all_ready = c.are_ready-ready.result; waits_at = c.are_ready-ready.new.waits_at }) c.self.invariant
    (found c.in_ok-required.required (required r.script (past r)) (ready r.script (past r)) c.are_ready-ready.result c.are_ready-ready.new.waits_at
    (subst (λ (z : Run). c.in_ok-required.required ≡ required z.script (past z)) (sym c.self.view_is) c.in_ok-required.ensures) (c.are_ready-ready.ensures r.script (past r) c.self.invariant.tiles))
