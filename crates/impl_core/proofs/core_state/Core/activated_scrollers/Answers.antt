-- The page is the pending one, and the moves are those that the activation lists.
use Rattle.std.proofs.Common.{◌≡◌, true, List, ◌∷◌, Some, is_some, sym, ◌∙◌, ap, subst}
use Rattle.std.specs.Prelude.{option_copied}
use Rattle.model_states.specs.declared.kind.Kind.TheVariants as kind
use Rattle.page_layers.specs.declared.moves.Move.{Move}
use Rattle.model_history.specs.declared.history.Entry.{Entry}
use Rattle.model_history.specs.Frames.{pending, pending_page}
use Rattle.model_history.specs.Scrolls.{next_clamps}
use Rattle.model_steps.specs.Events.{activate}
use Rattle.impl_scroll.specs.Standings.{StandingModel, StandsForPast}
use Rattle.impl_log.specs.Runs.{Run, past, now}
use Rattle.impl_core.proofs.ActivationSteps.{OfActivation, of_activation}
use Rattle.impl_scroll.proofs.InputFacts.{page_is}
use Rattle.impl_core.proofs.core_state.Core.activated_scrollers.Goals as goal

pub activated-requires : goal.activated-requires
activated-requires c =
    let r : Run = c.self.inside.log in
    let h : List Entry = past r in
    let ms : List Move = c.as_slice.result.now in
    let legal = c.is_legal.ensures.legal in
    let pages = c.pages-pages.ensures r.script h c.self.invariant.host in
    let page : c.in-Some.page.now ≡ pending_page r.script h = page_is r.script h c.in-Some.page.now (pending h) (sym (ap option_copied c.in-Some.is) ∙ pages.pending) in
    let stands = subst (λ (st : StandingModel). StandsForPast r.script h st) (sym c.standing.ensures) c.self.invariant.host.standing in
    let listed : ms ≡ next_clamps r.script h = c.as_slice.ensures ∙ c.in_ok-clamps.ensures r.script r.workers h c.is_legal.ensures.playable legal stands page pages.outright in
    let waits = subst (λ (z : Run). pending (past z) ≡ Some c.args.frame) (sym c.self.view_is) c.requires.waits in
    let may = subst (λ (z : Run). is_some (now z kind.Activate 0) ≡ true) (sym c.self.view_is) c.requires.may in
    record {
      script = r.script;
      workers = r.workers;
      past = h;
      actor = 0;
      frame = c.args.frame;
      playable = c.is_legal.ensures.playable;
      legal = (of_activation r.script r.workers h c.args.frame ms legal may waits listed).legal;
      stands = subst (λ (st : StandingModel). StandsForPast r.script h st) (sym c.standing-2.ensures) c.self.invariant.host.standing;
      page_is = page;
    }

pub returns-clause-stands : goal.returns-clause-stands
returns-clause-stands c =
    let r : Run = c.self.inside.log in
    let h : List Entry = past r in
    let ms : List Move = c.as_slice.result.now in
    let legal = c.is_legal.ensures.legal in
    let pages = c.pages-pages.ensures r.script h c.self.invariant.host in
    let page : c.in-Some.page.now ≡ pending_page r.script h = page_is r.script h c.in-Some.page.now (pending h) (sym (ap option_copied c.in-Some.is) ∙ pages.pending) in
    let stands = subst (λ (st : StandingModel). StandsForPast r.script h st) (sym c.standing.ensures) c.self.invariant.host.standing in
    let listed : ms ≡ next_clamps r.script h = c.as_slice.ensures ∙ c.in_ok-clamps.ensures r.script r.workers h c.is_legal.ensures.playable legal stands page pages.outright in
    let waits = subst (λ (z : Run). pending (past z) ≡ Some c.args.frame) (sym c.self.view_is) c.requires.waits in
    let may = subst (λ (z : Run). is_some (now z kind.Activate 0) ≡ true) (sym c.self.view_is) c.requires.may in
    let activation : OfActivation r.script r.workers h c.args.frame ms = of_activation r.script r.workers h c.args.frame ms legal may waits listed in
    let now_stands = subst (λ (st : StandingModel). StandsForPast r.script h st) (sym c.standing-2.ensures) c.self.invariant.host.standing in
    subst (λ (z : Run). StandsForPast z.script (activate 0 c.args.frame (next_clamps z.script (past z)) ∷ past z) c.in_ok-standing.standing) c.self.view_is
    (subst (λ (l : List Move). StandsForPast r.script (activate 0 c.args.frame l ∷ h) c.in_ok-standing.standing) listed
    (c.in_ok-standing.ensures r.script r.workers h 0 c.args.frame activation.legal now_stands page))
