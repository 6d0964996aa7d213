-- The page is the pending one.
use Rattle.std.proofs.Common.{◌≡◌, sym, ◌∙◌, ap, subst}
use Rattle.std.specs.Prelude.{option_copied}
use Rattle.model_history.specs.Frames.{pending, pending_page}
use Rattle.page_layers.proofs.KeptPages.{weaken}
use Rattle.impl_scroll.specs.Standings.{StandingModel, StandsForPast}
use Rattle.impl_scroll.proofs.InputFacts.{page_is}
use Rattle.impl_log.specs.Runs.{past}
use Rattle.recording_judge.proofs.state.State.clamps.Goals as goal

pub clamps-requires : goal.clamps-requires
clamps-requires c =
    let r = c.args.self.now.log in
    record {
      script = r.script;
      workers = r.workers;
      past = past r;
      playable = c.is_legal.ensures.playable;
      legal = c.is_legal.ensures.legal;
      stands = subst (λ (st : StandingModel). StandsForPast r.script (past r) st) (sym c.standing.ensures) c.requires.state.host.standing;
    }

pub returns : goal.returns
returns c =
    let r = c.args.self.now.log in
    let h = past r in
    let pages = c.pages-pages.ensures r.script h c.requires.state.host in
    let page : c.in-Some.page.now ≡ pending_page r.script h = page_is r.script h c.in-Some.page.now (pending h) (sym (ap option_copied c.in-Some.is) ∙ pages.pending) in
    let stands = subst (λ (st : StandingModel). StandsForPast r.script h st) (sym c.standing.ensures) c.requires.state.host.standing in
    weaken c.clamps.result (λ moves is. is r.script r.workers h c.is_legal.ensures.playable c.is_legal.ensures.legal stands page pages.outright) c.clamps.ensures
