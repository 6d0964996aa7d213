-- The rows have the values of the run, so what they list is what the send lists.
use Rattle.std.proofs.Common.{sym, subst}
use Rattle.impl_scroll.specs.Standings.{StandsForPast}
use Rattle.impl_scroll.proofs.Amounts.{bounded}
use Rattle.impl_scroll.proofs.ListedNow.{from_both, pulls_now}
use Rattle.impl_scroll.proofs.standing.Standing.unheard.Goals as goal

pub unheard-requires : goal.unheard-requires
unheard-requires c =
    let r = c.requires in
    bounded r.script r.workers r.past c.self.inside.rows r.playable r.legal (subst (StandsForPast r.script r.past) (sym c.self.view_is) r.stands).rows

pub returns : goal.returns
returns c =
    from_both c.unheard.result
    (λ ms rising amounts s n h legal is opened. pulls_now s n h c.self.inside.rows ms legal opened (subst (StandsForPast s h) (sym c.self.view_is) is).rows rising amounts)
    c.unheard.ensures.rising c.unheard.ensures.amounts
