-- The page of the active tree, where its scrollers stand.
use Rattle.std.proofs.Common.{sym, ◌∙◌, ap}
use Rattle.std.specs.Prelude.{option_copied}
use Rattle.model_history.specs.Scripts.{ScriptModel}
use Rattle.model_history.specs.Frames.{active}
use Rattle.impl_log.specs.Runs.{past}
use Rattle.recording_judge.proofs.ShownPages.{none_active, active_is, offsets_are}
use Rattle.recording_judge.proofs.state.State.shown_page.Goals as goal

pub returns-in-None : goal.returns-in-None
returns-in-None c =
    let r = c.args.self.now.log in
    let pages = c.pages.ensures r.script (past r) c.requires.host in
    none_active r.script (past r) (active (past r)) (sym (ap option_copied c.in-None.is) ∙ pages.active)

pub returns-in-Some : goal.returns-in-Some
returns-in-Some c =
    let r = c.args.self.now.log in
    let pages = c.pages.ensures r.script (past r) c.requires.host in
    record {
      page = active_is r.script (past r) c.in-Some.page.now (sym (ap option_copied c.in-Some.is) ∙ pages.active);
      offsets = offsets_are r.script (past r) c.args.self.now.host c.standing.result.now c.active.result.now c.requires.host c.standing.ensures c.active.ensures.value;
      in_range = c.active.ensures.in_range;
      background = c.background.ensures ∙ ap (λ (s : ScriptModel). s.background) c.plan.ensures;
    }
