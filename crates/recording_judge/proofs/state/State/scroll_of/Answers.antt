-- What is accepted is what the scrollers tell.
use Rattle.std.proofs.Common.{ℤ, ℕ, Some, sym, ◌∙◌, ap, subst}
use Rattle.std.proofs.lemmas.Int.{to_z-of_z}
use Rattle.impl_scroll.specs.Standings.{StandingModel, StandsForPast}
use Rattle.impl_log.specs.Runs.{past}
use Rattle.recording_judge.proofs.DueEvents.{scroll_is}
use Rattle.recording_judge.proofs.state.State.scroll_of.Goals as goal

pub returns : goal.returns
returns c =
    let r = c.args.self.now.log in
    let h = past r in
    let legal = c.is_legal.ensures.legal in
    let stands = subst (λ (st : StandingModel). StandsForPast r.script h st) (sym c.standing.ensures) c.requires.state.host.standing in
    let pages = c.pages.ensures r.script h c.requires.state.host in
    let x : ℤ = c.accepted-taken.result.x in
    let y : ℤ = c.accepted-taken.result.y in
    let right = simp (to_z-of_z, c.ranges.dx) at (c.accepted-taken.ensures.x r.script r.workers h legal stands pages.active) in
    let downwards = simp (to_z-of_z, c.ranges.dy) at (c.accepted-taken.ensures.y r.script r.workers h legal stands pages.active) in
    let i : ℕ = c.next_input-place.result in
    ap Some c.scroll.ensures ∙ scroll_is r.script h c.args.scroller c.args.dx c.args.dy c.requires.asked i x y c.next_input-place.ensures right downwards
