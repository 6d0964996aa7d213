-- The store and the outlook start the key.
use Rattle.std.proofs.Common.{◌≤◌, ◌∷◌, sym, subst}
use Rattle.model_steps.specs.Events.{start}
use Rattle.impl_tiles.specs.Managers.{Managed, Manages, TellsNext}
use Rattle.impl_tiles.proofs.StartTiles.{may_start, may_start_next, start_holds}
use Rattle.impl_tiles.proofs.manager.TileManager.start.Goals as goal

pub start-requires : goal.start-requires
start-requires c =
    let r = c.requires.next in
    let m : Managed = record { store = c.self.inside.store; pinned = c.self.inside.pins; outlook = c.self.inside.outlook } in
    may_start r.script r.workers r.past r.actor r.worker c.args.key c.args.evicted.now r.legal m (subst (Manages r.script r.past) (sym c.self.view_is) r.manages)
    (subst (λ (z : Managed). 1 ≤ z.store.spare) (sym c.self.view_is) c.requires.room)

pub start-requires-2 : goal.start-requires-2
start-requires-2 c =
    let r = c.requires.next in
    let m : Managed = record { store = c.self.inside.store; pinned = c.self.inside.pins; outlook = c.self.inside.outlook } in
    may_start_next r.script r.workers r.past r.actor r.worker c.args.key c.args.evicted.now r.legal m (subst (Manages r.script r.past) (sym c.self.view_is) r.manages)
    (subst (λ (z : Managed). TellsNext z.outlook) (sym c.self.view_is) c.requires.told)

pub returns-clause-tiles : goal.returns-clause-tiles
returns-clause-tiles c = λ s n h a w holds legal.
    let m : Managed = record { store = c.self.inside.store; pinned = c.self.inside.pins; outlook = c.self.inside.outlook } in
    subst (λ store. Manages s (start a w c.args.key c.args.evicted.now ∷ h) (record { store = store; pinned = c.self.inside.pins; outlook = c.start-2.new.self })) (sym c.start.ensures.store)
    (start_holds s n h a w c.args.key c.args.evicted.now legal m (subst (Manages s h) (sym c.self.view_is) holds) c.start.new.self.spare c.start-2.new.self c.start-2.ensures)
