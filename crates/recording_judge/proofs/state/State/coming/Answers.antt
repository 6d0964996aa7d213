-- What is due may come where its kind is open.
use Rattle.std.proofs.Common.{cond, None, sym, ◌∙◌, ap}
use Rattle.model_history.specs.Due.{due}
use Rattle.page_layers.proofs.KeptPages.{weaken}
use Rattle.impl_log.specs.Runs.{past}
use Rattle.recording_judge.proofs.state.State.coming.Goals as goal

pub returns-then-open : goal.returns-then-open
returns-then-open c =
    let r = c.args.self.now.log in
    weaken c.due.result (λ o is. is ∙ sym (ap (λ b. cond b (due r.script (past r) c.args.kind c.args.actor) None) (sym c.is_open-open.ensures ∙ c.if-open.true))) c.due.ensures

pub returns-else-open : goal.returns-else-open
returns-else-open c =
    let r = c.args.self.now.log in
    sym (ap (λ b. cond b (due r.script (past r) c.args.kind c.args.actor) None) (sym c.is_open-open.ensures ∙ c.if-open.false))
