-- The key goes where it has an image.
use Rattle.std.proofs.Common.{sym, ap, ◌∙◌}
use Rattle.std.specs.Ordering.{eq_by_cmp}
use Rattle.std.specs.FinMap as fin
use Rattle.geom.specs.KeyOrder.{key_cmp}
use Rattle.impl_tiles.specs.inner.Rows.{has_image}
use Rattle.geom.proofs.KeyOrders.{key_total}
use Rattle.impl_tiles.proofs.StoreKeyOrders.{tied}
use Rattle.impl_tiles.proofs.Dropped.{gone_one, stays_one}
use Rattle.impl_tiles.proofs.tile_table.TileTable.give_up_one.Goals as goal

pub returns-then-is_made-clause-held : goal.returns-then-is_made-clause-held
returns-then-is_made-clause-held c = λ q.
    let m = c.args.self.now.held in
    ap (λ n. fin.get n q) c.remove.ensures.held
    ∙ fin.get-remove key_total m c.args.key q
    ∙ gone_one (eq_by_cmp key_cmp q c.args.key) (fin.get m q) (λ e. ap (λ k. has_image (fin.get m k)) (tied q c.args.key e) ∙ sym c.is_made.ensures ∙ c.if-is_made.true)

pub returns-else-is_made-clause-held : goal.returns-else-is_made-clause-held
returns-else-is_made-clause-held c = λ q.
    let m = c.args.self.now.held in
    stays_one (eq_by_cmp key_cmp q c.args.key) (fin.get m q) (λ e. ap (λ k. has_image (fin.get m k)) (tied q c.args.key e) ∙ sym c.is_made.ensures ∙ c.if-is_made.false)
