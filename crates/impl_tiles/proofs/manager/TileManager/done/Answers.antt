-- The store takes the image, and the outlook the tile.
use Rattle.std.proofs.Common.{◌∷◌, ◌∙◌, ap, sym, subst}
use Rattle.impl_tiles.specs.Stores.{done_with}
use Rattle.model_steps.specs.Events.{done}
use Rattle.impl_tiles.specs.Managers.{Managed, Manages}
use Rattle.impl_tiles.proofs.DoneTiles.{is_flying, may_finish, done_holds}
use Rattle.impl_tiles.proofs.manager.TileManager.done.Goals as goal

pub done-requires : goal.done-requires
done-requires c =
    let r = c.requires in
    let m : Managed = record { store = c.self.inside.store; pinned = c.self.inside.pins; outlook = c.self.inside.outlook } in
    is_flying r.script r.workers r.past r.actor r.worker c.args.image.value r.legal m (subst (Manages r.script r.past) (sym c.self.view_is) r.manages)

pub finish-requires : goal.finish-requires
finish-requires c =
    let r = c.requires in
    let m : Managed = record { store = c.self.inside.store; pinned = c.self.inside.pins; outlook = c.self.inside.outlook } in
    may_finish r.script r.workers r.past r.actor r.worker c.args.image.value r.legal m (subst (Manages r.script r.past) (sym c.self.view_is) r.manages) c.args.tile r.is_tile

pub returns-clause-tiles : goal.returns-clause-tiles
returns-clause-tiles c = λ s n h a w holds legal is_tile shows.
    let m : Managed = record { store = c.self.inside.store; pinned = c.self.inside.pins; outlook = c.self.inside.outlook } in
    let i = c.args.image.value in
    let spare = c.done.new.self.spare in
    let stored = c.done.ensures.store ∙ ap (λ b. done_with c.self.inside.store i b spare) c.is_some.ensures in
    subst (λ store. Manages s (done a w i.key ∷ h) (record { store = store; pinned = c.self.inside.pins; outlook = c.finish.new.self })) (sym stored)
    (done_holds s n h a w i legal m (subst (Manages s h) (sym c.self.view_is) holds) shows c.args.tile spare c.finish.new.self is_tile c.finish.ensures)
