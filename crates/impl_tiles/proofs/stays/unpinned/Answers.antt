-- No more are counted than there are.
use Rattle.std.proofs.Common.{◌≡◌, ◌+◌, ◌∷◌, suc, Bool, true, cond, not, length, filter, sym, ◌∙◌, ap, arith}
use Rattle.std.specs.FinMap as fin
use Rattle.geom.specs.declared.tile.TileKey.{TileKey}
use Rattle.geom.specs.KeyLists.{has_key}
use Rattle.tile_queue.proofs.Halves.{few_pass}
use Rattle.impl_tiles.proofs.ReadyKeyLists.{keys_count}
use Rattle.impl_tiles.proofs.stays.unpinned.Goals as goal

pub overflow_add-count : goal.overflow_add-count
overflow_add-count c =
    let store = c.args.store.now in
    let passes : TileKey → Bool = λ q. not (has_key c.args.pins.now q) in
    let key = c.in-Some.key in
    let rest = c.next.new.self in
    let counted : c.loop-key.count + length (filter passes c.loop-key.keys) ≡ length (filter passes (fin.keys store.ready)) = c.loop-key.invariant in
    let keys : c.loop-key.keys ≡ key ∷ rest = c.in-Some.ensures.some in
    let passing : passes key ≡ true = ap not (sym c.has_near.ensures ∙ c.if-not-has_near.true) in
    let one : length (filter passes c.loop-key.keys) ≡ suc (length (filter passes rest)) =
    ap (λ ks. length (filter passes ks)) keys ∙ ap (λ b. length (cond b (key ∷ filter passes rest) (filter passes rest))) passing in
    let few = few_pass passes (fin.keys store.ready) in
    let all = keys_count store in
    let used = c.used.ensures in
    omega (arith, counted, one, few, all, used, c.used.type_inv)
