-- No main frame is in flight, and a send leaves both trees.
use Rattle.std.proofs.Common.{refl, sym, subst}
use Rattle.impl_scroll.specs.Standings.{StandsForPast}
use Rattle.impl_scroll.proofs.Amounts.{bounded}
use Rattle.impl_scroll.proofs.AfterEvents.{none_told, sent_stands}
use Rattle.impl_scroll.proofs.standing.Standing.sent.Goals as goal

pub pull-requires-clause-bounded : goal.pull-requires-clause-bounded
pull-requires-clause-bounded c =
    let r = c.requires in
    bounded r.script r.workers r.past c.self.inside.rows r.playable r.legal.0 (subst (StandsForPast r.script r.past) (sym c.self.view_is) r.stands).rows

pub pull-requires-clause-none_in_flight : goal.pull-requires-clause-none_in_flight
pull-requires-clause-none_in_flight c =
    let r = c.requires in
    none_told r.script r.workers r.past r.actor r.frame r.pulls c.self.inside.rows r.legal (subst (StandsForPast r.script r.past) (sym c.self.view_is) r.stands).rows

pub returns : goal.returns
returns c = λ s n h a k ms legal is.
    sent_stands s n h a k ms (record { rows = c.self.inside.rows; active = c.self.inside.active; pending = c.self.inside.pending })
    (record { rows = c.pull.new.self; active = c.self.inside.active; pending = c.self.inside.pending }) legal (subst (StandsForPast s h) (sym c.self.view_is) is) c.pull.ensures refl refl
