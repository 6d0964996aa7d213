-- The evicted keys go, and the key comes.
use Rattle.std.proofs.Common.{◌≡◌, not, None, is_some, sym, ap, ◌∙◌, subst}
use Rattle.std.specs.FinMap as fin
use Rattle.std.specs.FinSet as set
use Rattle.geom.specs.declared.tile.TileKey.{TileKey}
use Rattle.impl_tiles.specs.Stores.{started, MayStart, Store}
use Rattle.geom.specs.KeyLists.{has_key}
use Rattle.impl_tiles.specs.inner.Rows.{ready_of, flying_of, if_not_named}
use Rattle.impl_tiles.proofs.Parts.{get_ready, contains_flying}
use Rattle.impl_tiles.proofs.StoreSteps.{not_held, absent_after, started_ready, started_flying}
use Rattle.impl_tiles.proofs.store.TileStore.start.Goals as goal

pub put-requires-clause-absent : goal.put-requires-clause-absent
put-requires-clause-absent c =
    let m = c.self.inside.table.held in
    let key = c.args.key in
    let may = subst (λ s. MayStart s key c.args.evicted.now) (sym c.self.view_is) c.requires in
    let none : fin.get m key ≡ None = not_held (fin.get m key) (ap is_some (sym (get_ready m key)) ∙ may.not_ready) (sym (contains_flying m key) ∙ may.not_in_flight) in
    let left = subst (λ keys. (q : TileKey) → fin.get c.remove_all.new.self.held q ≡ if_not_named (has_key keys q) (fin.get m q)) c.as_slice.ensures c.remove_all.ensures.held in
    absent_after m c.remove_all.new.self.held c.remove_all.new.self.held key c.args.evicted.now left none

pub returns-clause-store : goal.returns-clause-store
returns-clause-store c =
    let m = c.self.inside.table.held in
    let key = c.args.key in
    let new = c.put.new.self.held in
    let may = subst (λ s. MayStart s key c.args.evicted.now) (sym c.self.view_is) c.requires in
    let none : fin.get m key ≡ None = not_held (fin.get m key) (ap is_some (sym (get_ready m key)) ∙ may.not_ready) (sym (contains_flying m key) ∙ may.not_in_flight) in
    let left = subst (λ keys. (q : TileKey) → fin.get c.remove_all.new.self.held q ≡ if_not_named (has_key keys q) (fin.get m q)) c.as_slice.ensures c.remove_all.ensures.held in
    let ready = started_ready m c.remove_all.new.self.held new key c.args.evicted.now left c.put.ensures.held none in
    let flying = started_flying m c.remove_all.new.self.held new key c.args.evicted.now left c.put.ensures.held may.evicted_ready in
    let made : ◌≡◌ {A = Store} (record { ready = ready_of new; in_flight = flying_of new; spare = c.put.new.self.spare })
    (record { ready = fin.retain_keys (ready_of m) (λ k. not (has_key c.args.evicted.now k)); in_flight = set.insert (flying_of m) key; spare = c.put.new.self.spare })
    = λ i. record { ready = ready i; in_flight = flying i; spare = c.put.new.self.spare } in
    made ∙ ap (λ s. started s key c.args.evicted.now c.put.new.self.spare) c.self.view_is
