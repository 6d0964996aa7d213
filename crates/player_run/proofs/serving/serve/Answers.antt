-- A session ends as that of its lines.
use Rattle.std.proofs.Common.{rules, subst, ◌≡◌}
use Rattle.player_lines.specs.declared.answering.Stop.{Stop}
use Rattle.player_lines.specs.declared.answering.Stop.TheVariants as stop
use Rattle.player_lines.specs.Sessions.{Has}
use Rattle.player_lines.specs.inner.Reading.{StoppedBy}
use Rattle.player_run.specs.Served.{IsLineAnswer}
use Rattle.player_run.proofs.ServedLines.{both_known}
use Rattle.player_run.proofs.serving.serve.Goals as goal

pub returns-in-Ok-clause-serves : goal.returns-in-Ok-clause-serves
returns-in-Ok-clause-serves g c = λ new. both_known _ _ _ (c.in-Ok.ensures.at_once new) (c.in-Ok.ensures.ends new)

pub returns-in-Err-Read-clause-serves : goal.returns-in-Err-Read-clause-serves
returns-in-Err-Read-clause-serves g c =
    let why : c.in-Err-Read.field-0 ≡ stop.Read = search rules in
    λ new. both_known _ _ _ (c.in-Err-Read.ensures.at_once new)
    (subst (λ (w : Stop). Has (StoppedBy (IsLineAnswer c.args.workers) w) (g.C.Client.past c.serve.new.session.client)) why (c.in-Err-Read.ensures.ends new))

pub returns-in-Err-Write-clause-serves : goal.returns-in-Err-Write-clause-serves
returns-in-Err-Write-clause-serves g c =
    let why : c.in-Err-Write.field-0 ≡ stop.Write = search rules in
    λ new. both_known _ _ _ (c.in-Err-Write.ensures.at_once new)
    (subst (λ (w : Stop). Has (StoppedBy (IsLineAnswer c.args.workers) w) (g.C.Client.past c.serve.new.session.client)) why (c.in-Err-Write.ensures.ends new))

pub returns-in-Err-Memory-clause-serves : goal.returns-in-Err-Memory-clause-serves
returns-in-Err-Memory-clause-serves g c =
    let why : c.in-Err-Memory.field-0 ≡ stop.Memory = search rules in
    λ new. both_known _ _ _ (c.in-Err-Memory.ensures.at_once new)
    (subst (λ (w : Stop). Has (StoppedBy (IsLineAnswer c.args.workers) w) (g.C.Client.past c.serve.new.session.client)) why (c.in-Err-Memory.ensures.ends new))
