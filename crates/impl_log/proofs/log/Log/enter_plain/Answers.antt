use Rattle.std.proofs.Common.{ap, sym, ◌∙◌}
use Rattle.model_states.specs.declared.kind.Kind.{Kind}
use Rattle.impl_log.specs.Runs.{past, now}
use Rattle.impl_log.proofs.LogSteps.{plain_row}
use Rattle.impl_log.proofs.log.Log.enter_plain.Goals as goal

pub enter-requires-clause-is_now : goal.enter-requires-clause-is_now
enter-requires-clause-is_now c =
    let r = c.args.self.now in
    let d = sym c.in-Some.ensures in
    ap (λ (k : Kind). now r k 0) (plain_row r.script (past r) c.args.kind c.in-Some.event c.requires d).0 ∙ d
