-- The page is the active one, its scrollers are in their ranges, and so are the numbers of the wheel.
use Rattle.std.proofs.Common.{pos, sym, ◌∙◌, ap, subst}
use Rattle.std.specs.Prelude.{option_copied}
use Rattle.std.proofs.lemmas.Int.{to_z-of_z}
use Rattle.page_layers.proofs.KeptPages.{weaken}
use Rattle.impl_scroll.specs.Standings.{StandsForPast}
use Rattle.impl_scroll.proofs.InputFacts.{ranges_there, wheel_there, wheel_nowhere, wheel_fits}
use Rattle.impl_scroll.proofs.standing.Standing.wheel.Goals as goal

pub wheel_in-requires-clause-ranges : goal.wheel_in-requires-clause-ranges
wheel_in-requires-clause-ranges c =
    let r = c.requires in
    ranges_there r.script r.past (record { rows = c.self.inside.rows; active = c.self.inside.active; pending = c.self.inside.pending }) c.in-Some.page.now
    (subst (StandsForPast r.script r.past) (sym c.self.view_is) r.stands).active (sym (ap option_copied c.in-Some.is) ∙ r.page) r.workers r.playable r.legal

pub wheel_in-requires-clause-column : goal.wheel_in-requires-clause-column
wheel_in-requires-clause-column c = let r = c.requires in (wheel_fits r.script r.past c.args.x c.args.y c.args.dx c.args.dy r.playable r.input).column

pub wheel_in-requires-clause-row : goal.wheel_in-requires-clause-row
wheel_in-requires-clause-row c = let r = c.requires in (wheel_fits r.script r.past c.args.x c.args.y c.args.dx c.args.dy r.playable r.input).row

pub wheel_in-requires-clause-across : goal.wheel_in-requires-clause-across
wheel_in-requires-clause-across c = let r = c.requires in simp (to_z-of_z, c.ranges.dx) (wheel_fits r.script r.past c.args.x c.args.y c.args.dx c.args.dy r.playable r.input).across

pub wheel_in-requires-clause-down : goal.wheel_in-requires-clause-down
wheel_in-requires-clause-down c = let r = c.requires in simp (to_z-of_z, c.ranges.dy) (wheel_fits r.script r.past c.args.x c.args.y c.args.dx c.args.dy r.playable r.input).down

pub returns-in-None : goal.returns-in-None
returns-in-None c = λ s n h is e.
    wheel_nowhere s h (pos c.args.x) (pos c.args.y) c.args.dx c.args.dy c.wheel_nowhere.result (sym (ap option_copied c.in-None.is) ∙ e)
    c.wheel_nowhere.ensures.target c.wheel_nowhere.ensures.parts (simp (to_z-of_z, c.ranges.dx) at c.wheel_nowhere.ensures.rest_across) (simp (to_z-of_z, c.ranges.dy) at c.wheel_nowhere.ensures.rest_down)

pub returns-in-Some : goal.returns-in-Some
returns-in-Some c =
    weaken c.wheel_in.result
    (λ w there s n h is e.
    wheel_there s h (record { rows = c.self.inside.rows; active = c.self.inside.active; pending = c.self.inside.pending }) c.in-Some.page.now
    (subst (StandsForPast s h) (sym c.self.view_is) is).active (sym (ap option_copied c.in-Some.is) ∙ e) (pos c.args.x) (pos c.args.y) c.args.dx c.args.dy w there)
    (simp (to_z-of_z, c.ranges.dx, c.ranges.dy) at c.wheel_in.ensures)
