-- The keys that were kept are those that the pending tree needs.
use Rattle.std.proofs.Common.{◌≡◌, subst}
use Rattle.std.specs.Prelude.{IfSome}
use Rattle.model_history.specs.Tiles.{required}
use Rattle.impl_log.specs.Runs.{Run, past}
use Rattle.impl_core.proofs.core_state.Core.activated_tiles.Goals as goal

pub tiles_with-requires-clause-keys : goal.tiles_with-requires-clause-keys
tiles_with-requires-clause-keys c =
    subst (λ (z : Run). c.in-Some.needs ≡ required z.script (past z)) c.self.view_is
    (subst (λ o. IfSome o (λ ks. ks ≡ required c.self.inside.log.script (past c.self.inside.log))) c.in-Some.is c.self.invariant.required.keys)
