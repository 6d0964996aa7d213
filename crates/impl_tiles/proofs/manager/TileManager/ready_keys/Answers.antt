-- They are the keys of the store's map.
use Rattle.std.proofs.Common.{sym, subst, ap, ◌∙◌}
use Rattle.geom.specs.KeyOrder.{key_cmp}
use Rattle.geom.specs.KeyLists.{has_key, AreDistinctKeys}
use Rattle.tile_priority.specs.Ordered.{IsInOrder}
use Rattle.impl_tiles.specs.Stores.{is_ready}
use Rattle.impl_tiles.specs.Managers.{Managed}
use Rattle.impl_tiles.proofs.Bools.{of_answer}
use Rattle.impl_tiles.proofs.ReadyKeyLists.{keys_in_order, keys_once, keys_ready}
use Rattle.impl_tiles.proofs.manager.TileManager.ready_keys.Goals as goal

pub returns-clause-order : goal.returns-clause-order
returns-clause-order c = of_answer c.ready_keys.result (λ keys is. subst (IsInOrder key_cmp) (sym is) (keys_in_order c.self.inside.store)) c.ready_keys.ensures

pub returns-clause-once : goal.returns-clause-once
returns-clause-once c = of_answer c.ready_keys.result (λ keys is. subst AreDistinctKeys (sym is) (keys_once c.self.inside.store)) c.ready_keys.ensures

pub returns-clause-keys : goal.returns-clause-keys
returns-clause-keys c =
    of_answer c.ready_keys.result (λ keys is q.
    ap (λ ks. has_key ks q) is ∙ keys_ready c.self.inside.store q ∙ ap (λ (m : Managed). is_ready m.store q) c.self.view_is) c.ready_keys.ensures
