-- The dead keys go, and those in flight stay.
use Rattle.std.proofs.Common.{◌≡◌, not, ap, ◌∙◌, subst}
use Rattle.std.specs.FinMap as fin
use Rattle.geom.specs.declared.tile.TileKey.{TileKey}
use Rattle.impl_tiles.specs.Stores.{Store, without}
use Rattle.geom.specs.KeyLists.{has_key}
use Rattle.impl_tiles.specs.inner.Rows.{ready_of, flying_of, if_live}
use Rattle.impl_tiles.proofs.StoreSteps.{kept_ready, kept_flying}
use Rattle.impl_tiles.proofs.store.TileStore.give_up.Goals as goal

pub returns-clause-store : goal.returns-clause-store
returns-clause-store c =
    let m = c.self.inside.table.held in
    let new = c.give_up.new.self.held in
    let dead = c.args.dead.now in
    let spare = c.give_up.new.self.spare in
    let left = subst (λ keys. (q : TileKey) → fin.get new q ≡ if_live (not (has_key keys q)) (fin.get m q)) c.as_slice.ensures c.give_up.ensures.held in
    let ready = kept_ready m new (λ k. not (has_key dead k)) left in
    let flying = kept_flying m new (λ k. not (has_key dead k)) left in
    let made : ◌≡◌ {A = Store} (record { ready = ready_of new; in_flight = flying_of new; spare = spare })
    (record { ready = fin.retain_keys (ready_of m) (λ k. not (has_key dead k)); in_flight = flying_of m; spare = spare })
    = λ i. record { ready = ready i; in_flight = flying i; spare = spare } in
    made ∙ ap (λ s. without s dead spare) c.self.view_is
