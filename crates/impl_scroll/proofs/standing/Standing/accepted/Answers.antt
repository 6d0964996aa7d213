-- The rows have the values of the run, and the page is its active one.
use Rattle.std.proofs.Common.{Some, sym, ◌∙◌, ap, subst}
use Rattle.std.specs.Prelude.{option_copied}
use Rattle.std.proofs.lemmas.Int.{to_z-of_z}
use Rattle.page_layers.specs.Axes.{across, down}
use Rattle.impl_scroll.specs.Standings.{StandsForPast}
use Rattle.impl_scroll.proofs.Amounts.{bounded}
use Rattle.impl_scroll.proofs.PagePlaces.{active_in_range}
use Rattle.impl_scroll.proofs.InputFacts.{accepted_there}
use Rattle.impl_scroll.proofs.standing.Standing.accepted.Goals as goal

pub accepted-requires-clause-bounded : goal.accepted-requires-clause-bounded
accepted-requires-clause-bounded c =
    let r = c.requires in
    bounded r.script r.workers r.past c.self.inside.rows r.playable r.legal (subst (StandsForPast r.script r.past) (sym c.self.view_is) r.stands).rows

pub accepted-requires-clause-in_range : goal.accepted-requires-clause-in_range
accepted-requires-clause-in_range c =
    let r = c.requires in
    active_in_range r.script r.workers r.past c.self.inside.rows r.legal (subst (StandsForPast r.script r.past) (sym c.self.view_is) r.stands).rows
    (Some c.in-Some.page.now) r.playable (sym (ap option_copied c.in-Some.is) ∙ r.page)

pub returns-in-Some-clause-x : goal.returns-in-Some-clause-x
returns-in-Some-clause-x c = λ s n h legal is e.
    (simp (to_z-of_z, c.ranges.dx) at c.accepted.ensures.x)
    ∙ accepted_there s n h c.self.inside.rows c.in-Some.page.now c.args.scroller across c.args.dx legal (subst (StandsForPast s h) (sym c.self.view_is) is).rows (sym (ap option_copied c.in-Some.is) ∙ e)

pub returns-in-Some-clause-y : goal.returns-in-Some-clause-y
returns-in-Some-clause-y c = λ s n h legal is e.
    (simp (to_z-of_z, c.ranges.dy) at c.accepted.ensures.y)
    ∙ accepted_there s n h c.self.inside.rows c.in-Some.page.now c.args.scroller down c.args.dy legal (subst (StandsForPast s h) (sym c.self.view_is) is).rows (sym (ap option_copied c.in-Some.is) ∙ e)
