-- The pending page becomes the active one.
use Rattle.std.proofs.Common.{◌≡◌, sym, ◌∙◌, ap, subst}
use Rattle.std.specs.Prelude.{option_copied}
use Rattle.model_history.specs.Frames.{pending, pending_page}
use Rattle.impl_scroll.specs.Standings.{StandingModel, StandsForPast}
use Rattle.impl_scroll.proofs.InputFacts.{page_is}
use Rattle.recording_judge.proofs.host_steps.activate_host.Goals as goal

pub activated-requires : goal.activated-requires
activated-requires c =
    let r = c.requires in
    let pages = c.pages.ensures r.script r.past r.hosts in
    record {
      script = r.script;
      workers = r.workers;
      past = r.past;
      actor = r.actor;
      frame = r.frame;
      playable = r.playable;
      legal = r.legal;
      stands = subst (λ (st : StandingModel). StandsForPast r.script r.past st) (sym c.standing.ensures) r.hosts.standing;
      page_is = page_is r.script r.past c.in-Some.page.now (pending r.past) (sym (ap option_copied c.in-Some.is) ∙ pages.pending);
    }

pub activate-requires : goal.activate-requires
activate-requires c =
    let r = c.requires in
    record { script = r.script; workers = r.workers; past = r.past; actor = r.actor; frame = r.frame; clamps = c.args.moves.now; legal = r.legal; hosts = r.hosts }

pub returns : goal.returns
returns c = λ s n h a k legal hosts.
    let pages = c.pages.ensures s h hosts in
    let page : c.in-Some.page.now ≡ pending_page s h = page_is s h c.in-Some.page.now (pending h) (sym (ap option_copied c.in-Some.is) ∙ pages.pending) in
    let stands = subst (λ (st : StandingModel). StandsForPast s h st) (sym c.standing.ensures) hosts.standing in
    c.activate.ensures s n h a k c.args.moves.now legal hosts (c.in_ok-standing.ensures s n h a k legal stands page)
