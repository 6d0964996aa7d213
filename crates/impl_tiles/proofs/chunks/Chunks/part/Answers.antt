-- Neither part is empty.
use Rattle.std.proofs.Common.{◌≡◌, ◌<◌, ◌+◌, List, [], length, drop, get_or, set, is_ok, All, sym, ◌∙◌, ap, subst, arith}
use Rattle.std.specs.Prelude.{IfSome}
use Rattle.std.proofs.lemmas.List.{length-take}
use Rattle.std.proofs.lemmas.List.Elements.{All-set}
use Rattle.impl_tiles.specs.declared.held.KeyedPlace.{KeyedPlace}
use Rattle.impl_tiles.proofs.Flats.{Full, chunk_at, chunk_is, upper_full, insert_full, full_insert, full_cond}
use Rattle.impl_tiles.proofs.chunks.Chunks.part.Goals as goal

pub insert-requires-clause-room : goal.insert-requires-clause-room
insert-requires-clause-room c = omega (arith, ap length c.move_tail.ensures.lower, length-take c.args.spot.at c.index_mut-lower.result.now, c.requires.few)

pub invariant_of-self : goal.invariant_of-self
invariant_of-self c =
    let cs : List (List KeyedPlace) = c.self.inside.chunks.items in
    let n = c.args.spot.chunk in
    let at = c.args.spot.at in
    let lt : n < length cs = subst (λ m. n < length m.chunks) (sym c.self.view_is) c.requires.chunk in
    let at_lt : at < length (get_or cs n []) = subst (λ m. at < length (get_or m.chunks n [])) (sym c.self.view_is) c.requires.at in
    let own : c.index_mut-lower.result.now ≡ chunk_at cs n = chunk_is cs n c.index_mut-lower.result.now lt c.index_mut-lower.ensures.value in
    let upper : 0 < length c.move_tail.new.upper = subst Full (sym (c.move_tail.ensures.upper ∙ ap (drop at) own)) (upper_full (chunk_at cs n) at at_lt) in
    let lower : 0 < length c.insert.new.self = subst Full (sym c.insert.ensures) (insert_full c.move_tail.new.self at c.args.one) in
    let parts : All Full (set cs n c.insert.new.self) = All-set Full cs n c.insert.new.self lower c.self.invariant.0 in (
      full_cond (is_ok c.insert-in-Some.result) _ _ _ c.insert-in-Some.ensures.items (full_insert (set cs n c.insert.new.self) (n + 1) c.move_tail.new.upper upper parts) parts,
      subst (λ o. IfSome o (λ chunk. chunk ≡ [])) (sym c.take.ensures.after) tt,
    )
