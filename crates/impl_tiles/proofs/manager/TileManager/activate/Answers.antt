-- The store gives up what is dead.
use Rattle.std.proofs.Common.{◌∷◌, sym, subst}
use Rattle.model_steps.specs.Events.{activate}
use Rattle.impl_tiles.specs.declared.outlook.Outlook.TheVariants as outlook
use Rattle.impl_tiles.specs.Managers.{Managed, Manages}
use Rattle.impl_tiles.proofs.OtherTiles.{activate_holds}
use Rattle.impl_tiles.proofs.manager.TileManager.activate.Goals as goal

pub returns : goal.returns
returns c = λ s n h a k clamps accepted legal holds needed dies.
    let m : Managed = record { store = c.self.inside.store; pinned = c.self.inside.pins; outlook = c.self.inside.outlook } in
    subst (λ store. Manages s (activate a k clamps ∷ h) (record { store = store; pinned = c.args.pins; outlook = outlook.Unseen })) (sym c.give_up.ensures.store)
    (activate_holds s n h a k clamps m c.args.pins c.args.dead.now c.give_up.new.self.spare accepted legal (subst (Manages s h) (sym c.self.view_is) holds) needed dies)
