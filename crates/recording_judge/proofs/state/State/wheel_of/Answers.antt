-- The wheel does what the page tells.
use Rattle.std.proofs.Common.{ℤ, ℕ, List, Some, sym, ◌∙◌, ap, subst}
use Rattle.std.proofs.lemmas.Int.{to_z-of_z}
use Rattle.page_layers.specs.declared.moves.Move.{Move}
use Rattle.impl_scroll.specs.Standings.{StandingModel, StandsForPast}
use Rattle.impl_log.specs.Runs.{past}
use Rattle.recording_judge.proofs.DueEvents.{wheel_is}
use Rattle.recording_judge.proofs.state.State.wheel_of.Goals as goal

pub wheel-requires : goal.wheel-requires
wheel-requires c =
    let r = c.args.self.now.log in
    let h = past r in
    let stands = subst (λ (st : StandingModel). StandsForPast r.script h st) (sym c.standing.ensures) c.requires.state.host.standing in
    let pages = c.pages.ensures r.script h c.requires.state.host in
    let asked = c.requires.asked in
    record { script = r.script; workers = r.workers; past = h; playable = c.is_legal.ensures.playable; legal = c.is_legal.ensures.legal; stands = stands; page = pages.active; input = simp (to_z-of_z, c.ranges.dx, c.ranges.dy) asked }

pub returns : goal.returns
returns c =
    let r = c.args.self.now.log in
    let h = past r in
    let stands = subst (λ (st : StandingModel). StandsForPast r.script h st) (sym c.standing.ensures) c.requires.state.host.standing in
    let pages = c.pages.ensures r.script h c.requires.state.host in
    let is = simp (to_z-of_z, c.ranges.dx, c.ranges.dy) at (c.in_ok-wheel.ensures r.script r.workers h stands pages.active) in
    let layer : ℕ = c.in_ok-wheel.wheel.target in
    let rest_x : ℤ = c.in_ok-wheel.wheel.rest.x in
    let rest_y : ℤ = c.in_ok-wheel.wheel.rest.y in
    let ms : List Move = c.in_ok-moves.moves in
    let i : ℕ = c.next_input-place.result in
    ap Some c.wheel-2.ensures
    ∙ wheel_is r.script h c.args.x c.args.y c.args.dx c.args.dy c.requires.asked i layer rest_x rest_y ms c.next_input-place.ensures is.hits is.rest_across is.rest_down (c.in_ok-moves.ensures ∙ is.parts)
