-- As many as the map has.
use Rattle.std.proofs.Common.{◌≡◌, ◌+◌, ◌∷◌, [], length, refl, ap, arith}
use Rattle.std.specs.FinMap as fin
use Rattle.impl_tiles.proofs.ReadyKeyLists.{keys_count}
use Rattle.impl_tiles.proofs.stays.ready_count.Goals as goal

pub overflow_add-count : goal.overflow_add-count
overflow_add-count c =
    let counted : c.loop-count.count + length c.loop-count.keys ≡ length (fin.keys c.args.store.now.ready) = c.loop-count.invariant in
    let keys : c.loop-count.keys ≡ c.in-Some.field-0 ∷ c.next.new.self = c.in-Some.ensures.some in
    let one = ap length keys in
    let all = keys_count c.args.store.now in
    let used = c.used.ensures in
    omega (arith, counted, one, all, used, c.used.type_inv)

pub returns : goal.returns
returns c =
    let counted : c.loop-count.count + length c.loop-count.keys ≡ length (fin.keys c.args.store.now.ready) = c.loop-count.invariant in
    let none : c.loop-count.keys ≡ [] = c.in_default.ensures.none refl in
    let empty = ap length none in
    let all = keys_count c.args.store.now in
    omega (arith, counted, empty, all)
