-- The scrollers tell what the send lists.
use Rattle.std.proofs.Common.{sym, ◌∙◌, ap, subst}
use Rattle.impl_scroll.specs.Standings.{StandingModel, StandsForPast}
use Rattle.impl_log.specs.declared.progress.Progress.{Progress}
use Rattle.impl_log.specs.Runs.{past}
use Rattle.recording_judge.proofs.DueEvents.{send_is}
use Rattle.recording_judge.proofs.state.State.send_due.Goals as goal

pub unheard-requires : goal.unheard-requires
unheard-requires c =
    let r = c.args.self.now.log in
    record {
      script = r.script;
      workers = r.workers;
      past = past r;
      playable = c.is_legal.ensures.playable;
      legal = c.is_legal.ensures.legal;
      stands = subst (λ (st : StandingModel). StandsForPast r.script (past r) st) (sym c.standing.ensures) c.requires.state.host.standing;
    }

pub returns-in_ok-pulls : goal.returns-in_ok-pulls
returns-in_ok-pulls c =
    let r = c.args.self.now.log in
    let stands = subst (λ (st : StandingModel). StandsForPast r.script (past r) st) (sym c.standing.ensures) c.requires.state.host.standing in
    send_is r.script (past r) (sym c.is_left-left.ensures ∙ c.if-left.true) c.progress-frame.result.sends (ap (λ (p : Progress). p.sends) c.progress-frame.ensures) c.in_ok-pulls.pulls
    (c.in_ok-pulls.ensures r.script r.workers (past r) c.is_legal.ensures.legal stands c.requires.is_open)
