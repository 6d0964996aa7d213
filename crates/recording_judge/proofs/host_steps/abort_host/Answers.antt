-- The scrollers stand where the abort leaves them.
use Rattle.std.proofs.Common.{refl, sym, subst}
use Rattle.impl_scroll.specs.Standings.{StandingModel, StandsForPast}
use Rattle.model_steps.specs.Events.{abort}
use Rattle.recording_judge.proofs.host_steps.abort_host.Goals as goal

pub aborted-requires : goal.aborted-requires
aborted-requires c =
    let r = c.requires in
    record {
      script = r.script;
      workers = r.workers;
      past = r.past;
      actor = r.actor;
      frame = r.frame;
      playable = r.playable;
      legal = r.legal;
      stands = subst (λ (st : StandingModel). StandsForPast r.script r.past st) (sym c.standing.ensures) r.hosts.standing;
      pages = c.pages.ensures r.script r.past r.hosts;
    }

pub returns : goal.returns
returns c = λ s n h a k legal hosts.
    let stands = subst (λ (st : StandingModel). StandsForPast s h st) (sym c.standing.ensures) hosts.standing in
    c.stand.ensures.keeps s h (abort a k) refl refl refl hosts (c.in_ok-standing.ensures s n h a k legal stands (c.pages.ensures s h hosts))
