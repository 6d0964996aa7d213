-- The tiles are those of the history, and the keys those that the pending tree needs.
use Rattle.std.proofs.Common.{◌≡◌, ◌∙◌, ap, subst}
use Rattle.std.specs.Prelude.{IfSome}
use Rattle.model_history.specs.Tiles.{required, are_ready}
use Rattle.impl_log.specs.Runs.{Run, past}
use Rattle.impl_core.proofs.core_state.Core.ask_required.Goals as goal

pub returns-in-Some-clause-ready : goal.returns-in-Some-clause-ready
returns-in-Some-clause-ready c =
    let r : Run = c.self.inside.log in
    let needs : c.in-Some.required ≡ required r.script (past r) = subst (λ o. IfSome o (λ ks. ks ≡ required r.script (past r))) c.in-Some.is c.self.invariant.required.keys in
    c.are_ready-ready.ensures r.script (past r) c.self.invariant.tiles
    ∙ (ap (are_ready r.script (past r)) needs ∙ ap (λ (z : Run). are_ready z.script (past z) (required z.script (past z))) c.self.view_is)
