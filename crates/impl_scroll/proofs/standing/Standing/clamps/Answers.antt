-- The rows have the values of the run, so what they list is what the activation lists.
use Rattle.std.proofs.Common.{sym, subst}
use Rattle.impl_scroll.specs.Standings.{StandsForPast}
use Rattle.impl_scroll.proofs.Amounts.{bounded}
use Rattle.impl_scroll.proofs.ListedNow.{from_both, clamps_now}
use Rattle.impl_scroll.proofs.standing.Standing.clamps.Goals as goal

pub clamps-requires : goal.clamps-requires
clamps-requires c =
    let r = c.requires in
    bounded r.script r.workers r.past c.self.inside.rows r.playable r.legal (subst (StandsForPast r.script r.past) (sym c.self.view_is) r.stands).rows

pub returns : goal.returns
returns c =
    from_both c.clamps.result
    (λ ms rising amounts s n h acc legal is page outright.
    clamps_now s n h c.self.inside.rows c.args.page.now c.args.outright.now ms acc legal (subst (StandsForPast s h) (sym c.self.view_is) is).rows page outright rising amounts)
    c.clamps.ensures.rising c.clamps.ensures.amounts
