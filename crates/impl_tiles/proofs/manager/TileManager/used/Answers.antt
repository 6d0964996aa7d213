-- The store counts its keys.
use Rattle.std.proofs.Common.{◌∙◌, sym, subst}
use Rattle.impl_tiles.specs.Managers.{Managed, Manages}
use Rattle.impl_tiles.proofs.ReadyKeyLists.{used_is}
use Rattle.impl_tiles.proofs.manager.TileManager.used.Goals as goal

pub returns : goal.returns
returns c = λ s n h legal holds.
    let m : Managed = record { store = c.self.inside.store; pinned = c.self.inside.pins; outlook = c.self.inside.outlook } in
    c.used.ensures ∙ used_is s n h m legal (subst (Manages s h) (sym c.self.view_is) holds)
