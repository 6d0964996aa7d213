-- The queue is that of the visible tiles.
use Rattle.std.proofs.Common.{refl, sym, subst}
use Rattle.impl_tiles.specs.declared.outlook.Outlook.TheVariants as outlook
use Rattle.impl_tiles.specs.Managers.{Managed, Manages}
use Rattle.impl_tiles.proofs.OtherTiles.{reseen}
use Rattle.impl_tiles.proofs.ShownTiles.{queue_shows}
use Rattle.impl_tiles.proofs.manager.TileManager.foresee.Goals as goal

pub returns-clause-same : goal.returns-clause-same
returns-clause-same c = λ s n h legal budget holds are.
    let m : Managed = record { store = c.self.inside.store; pinned = c.self.inside.pins; outlook = c.self.inside.outlook } in
    let held : Manages s h m = subst (Manages s h) (sym c.self.view_is) holds in
    let next = c.in_ok-queue.queue in
    reseen s h h m (outlook.Visible next) held (record { ready = λ q. refl; in_flight = λ q. refl; pinned = λ q. refl })
    (queue_shows s n h legal m held c.args.wanted.now c.args.hidden.now c.args.budget next budget are c.in_ok-queue.ensures)

pub returns-clause-visible : goal.returns-clause-visible
returns-clause-visible c = let alike = c.in_ok-queue.ensures in (alike.wanted, alike.ready)
