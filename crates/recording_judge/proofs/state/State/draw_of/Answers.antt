-- What is shown and not ready is missing.
use Rattle.std.proofs.Common.{not, filter, sym, ◌∙◌, ap, is_some}
use Rattle.geom.specs.KeyLists.{has_key}
use Rattle.model_history.specs.Tiles.{ready}
use Rattle.impl_log.specs.declared.progress.Progress.{Progress}
use Rattle.impl_log.specs.Runs.{past}
use Rattle.recording_judge.proofs.DueEvents.{draw_is}
use Rattle.recording_judge.proofs.state.State.draw_of.Goals as goal

pub returns-in_ok-missing : goal.returns-in_ok-missing
returns-in_ok-missing c =
    let r = c.args.self.now.log in
    let h = past r in
    let there = ap (λ (p : Progress). is_some p.active) (sym c.progress.ensures) ∙ (sym c.is_some-active.ensures ∙ c.if-active.true) in
    let lacks = c.in_ok-missing.ensures r.script r.workers h c.requires.state.tiles ∙ ap (filter (λ q. not (has_key (ready r.script h) q))) c.in_ok-keys.ensures in
    draw_is r.script h c.args.place c.requires.begun there c.in_ok-missing.missing lacks
