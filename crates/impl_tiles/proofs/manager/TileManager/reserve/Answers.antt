-- Only the room is another.
use Rattle.std.proofs.Common.{sym, subst}
use Rattle.impl_tiles.specs.Managers.{Managed, Manages}
use Rattle.impl_tiles.proofs.OtherTiles.{roomier}
use Rattle.impl_tiles.proofs.manager.TileManager.reserve.Goals as goal

pub returns-clause-same : goal.returns-clause-same
returns-clause-same c = λ s h holds.
    let m : Managed = record { store = c.self.inside.store; pinned = c.self.inside.pins; outlook = c.self.inside.outlook } in
    subst (λ store. Manages s h (record { store = store; pinned = c.self.inside.pins; outlook = c.self.inside.outlook })) (sym c.reserve.ensures.store)
    (roomier s h m c.reserve.new.self.spare (subst (Manages s h) (sym c.self.view_is) holds))
