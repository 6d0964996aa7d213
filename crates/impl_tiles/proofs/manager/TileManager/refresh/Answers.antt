-- The queue is made of the ranks.
use Rattle.std.proofs.Common.{refl, sym, subst}
use Rattle.tile_priority.proofs.StayAlike.{alike_stay}
use Rattle.model_history.specs.Ranking.{choice}
use Rattle.impl_tiles.specs.declared.outlook.Outlook.TheVariants as outlook
use Rattle.impl_tiles.specs.Choices.{choice_among}
use Rattle.impl_tiles.specs.Managers.{Managed, Manages}
use Rattle.impl_tiles.proofs.AmongRanks.{foreseen_alike}
use Rattle.impl_tiles.proofs.OtherTiles.{reseen}
use Rattle.impl_tiles.proofs.manager.TileManager.refresh.Goals as goal

pub returns-in_ok-queue-clause-same : goal.returns-in_ok-queue-clause-same
returns-in_ok-queue-clause-same c = λ s n h legal holds.
    let m : Managed = record { store = c.self.inside.store; pinned = c.self.inside.pins; outlook = outlook.Ranks c.in-Ranks.ranks } in
    let here = subst (λ o. Manages s h (record { store = c.self.inside.store; pinned = c.self.inside.pins; outlook = o })) c.in-Ranks.is (subst (Manages s h) (sym c.self.view_is) holds) in
    let next = c.in_ok-queue.queue in
    reseen s h h m (outlook.Queue next) here (record { ready = λ q. refl; in_flight = λ q. refl; pinned = λ q. refl })
    (alike_stay.through next (choice_among m.store m.pinned c.in-Ranks.ranks) (choice s h) c.in_ok-queue.ensures (foreseen_alike s n h legal m here refl))
