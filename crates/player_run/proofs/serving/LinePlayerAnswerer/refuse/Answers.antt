-- A line that was not kept is refused for that reason.
use Rattle.std.proofs.Common.{rules, refl, subst, ◌≡◌}
use Rattle.player_lines.specs.declared.answering.Unkept.{Unkept}
use Rattle.player_lines.specs.declared.answering.Unkept.TheVariants.{TooLong}
use Rattle.player_lines.specs.inner.Reading.{IsUnkept}
use Rattle.player_uses.specs.declared.outcome.Outcome.TheVariants as outcome
use Rattle.player_uses.specs.Refusals.{script_limit}
use Rattle.player_run.proofs.ServedLines.{told_answer, too_long, no_memory}
use Rattle.player_run.proofs.serving.LinePlayerAnswerer.refuse.Goals as goal

pub returns-in-TooLong-clause-answered : goal.returns-in-TooLong-clause-answered
returns-in-TooLong-clause-answered g c =
    let why : c.args.why ≡ TooLong = search rules in
    λ line long. told_answer c.args.self.now.workers _ line (outcome.TooLong script_limit) _ _ c.put_verdict.result (too_long c.args.self.now.workers script_limit line refl (subst (λ (w : Unkept). IsUnkept script_limit w line) why long)) c.put_verdict.ensures.said

pub returns-in-Memory-clause-answered : goal.returns-in-Memory-clause-answered
returns-in-Memory-clause-answered g c = λ line more. told_answer c.args.self.now.workers _ line outcome.Memory _ _ c.put_verdict-in-Memory.result (no_memory c.args.self.now.workers line) c.put_verdict-in-Memory.ensures.said
