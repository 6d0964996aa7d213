-- The store has images of the ready keys.
use Rattle.std.proofs.Common.{◌∙◌, sym, subst}
use Rattle.std.specs.List.{list_all}
use Rattle.impl_tiles.specs.Managers.{Managed, Manages}
use Rattle.impl_tiles.proofs.manager.TileManager.are_ready.Goals as goal

pub returns : goal.returns
returns c = λ s h holds.
    let m : Managed = record { store = c.self.inside.store; pinned = c.self.inside.pins; outlook = c.self.inside.outlook } in
    c.all_ready.ensures ∙ (λ i. list_all (λ q. (subst (Manages s h) (sym c.self.view_is) holds).ready q i) c.args.keys.now)
