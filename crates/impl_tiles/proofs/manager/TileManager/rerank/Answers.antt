-- Only the ranks are others.
use Rattle.std.proofs.Common.{sym, subst}
use Rattle.impl_tiles.specs.declared.outlook.Outlook.TheVariants as outlook
use Rattle.impl_tiles.specs.Managers.{Managed, Manages}
use Rattle.impl_tiles.proofs.OtherTiles.{reseen}
use Rattle.impl_tiles.proofs.manager.TileManager.rerank.Goals as goal

pub returns-clause-ranks : goal.returns-clause-ranks
returns-clause-ranks c = λ s h g holds same are.
    let m : Managed = record { store = c.self.inside.store; pinned = c.self.inside.pins; outlook = c.self.inside.outlook } in
    reseen s h g m (outlook.Ranks c.args.ranks) (subst (Manages s h) (sym c.self.view_is) holds) same are
