use Rattle.std.proofs.Common.{◌≤◌, length, sym, ◌∙◌, subst, arith}
use Rattle.model_history.specs.Accepted.{IsPlayable}
use Rattle.model_history.proofs.ToldPlans.{told, counted}
use Rattle.model_history.proofs.plan.Plan.end_frame.Goals as goal

pub invariant_of-self : goal.invariant_of-self
invariant_of-self c =
    let p = c.self.inside.parts in
    let many = c.self.invariant.1 in
    let some : 1 ≤ length p.main.items = omega (arith, c.if-self-gt0.true, many) in
    let main = c.with_last-self-inside.result in
    let is = c.with_last-self-inside.ensures in (
      subst IsPlayable (sym (told p main c.args.commands.now some is c.args.self.now c.self.view_is)) c.requires,
      many ∙ sym (counted p main c.args.commands.now some is),
      c.self.invariant.2,
    )

pub returns-then-self-gt0 : goal.returns-then-self-gt0
returns-then-self-gt0 c =
    let many = c.self.invariant.1 in
    told c.self.inside.parts c.with_last-self-inside.result c.args.commands.now (omega (arith, c.if-self-gt0.true, many)) c.with_last-self-inside.ensures c.args.self.now c.self.view_is
