-- Nothing is told of what there is to choose from.
use Rattle.std.proofs.Common.{sym, subst}
use Rattle.impl_tiles.specs.declared.outlook.Outlook.TheVariants as outlook
use Rattle.impl_tiles.specs.Managers.{Managed, Manages}
use Rattle.impl_tiles.proofs.OtherTiles.{reseen}
use Rattle.impl_tiles.proofs.manager.TileManager.forget.Goals as goal

pub returns : goal.returns
returns c = λ s h g holds same.
    let m : Managed = record { store = c.self.inside.store; pinned = c.self.inside.pins; outlook = c.self.inside.outlook } in
    reseen s h g m outlook.Unseen (subst (Manages s h) (sym c.self.view_is) holds) same tt
