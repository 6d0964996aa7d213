-- The scrollers stand where the moves bring them.
use Rattle.std.proofs.Common.{sym, subst}
use Rattle.impl_scroll.specs.Standings.{StandingModel, StandsForPast}
use Rattle.recording_judge.proofs.HostFacts.{scroll_is_none}
use Rattle.recording_judge.proofs.host_steps.move_host.Goals as goal

pub moved-requires : goal.moved-requires
moved-requires c =
    let r = c.requires in
    record {
      script = r.script;
      workers = r.workers;
      past = r.past;
      entry = r.entry;
      playable = r.playable;
      legal = r.legal;
      stands = subst (λ (st : StandingModel). StandsForPast r.script r.past st) (sym c.standing.ensures) r.hosts.standing;
      pages = c.pages.ensures r.script r.past r.hosts;
      scroll = r.scroll;
      moves = r.moves;
    }

pub returns : goal.returns
returns c = λ s n h e legal scroll moves hosts.
    let none = scroll_is_none e.event scroll in
    let stands = subst (λ (st : StandingModel). StandsForPast s h st) (sym c.standing.ensures) hosts.standing in
    c.stand.ensures.keeps s h e none.sends none.commits none.activates hosts (c.in_ok-standing.ensures s n h e legal scroll moves stands (c.pages.ensures s h hosts))
