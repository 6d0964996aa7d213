-- A key that is seen in its chunk stands among all keys.
use Rattle.std.proofs.Common.{◌≡◌, [], sym, ◌∙◌, ap, subst}
use Rattle.impl_tiles.specs.declared.held.KeyedPlace.{KeyedPlace}
use Rattle.impl_tiles.specs.inner.TileTables.{Rises, StandsAt}
use Rattle.impl_tiles.proofs.StoreKeyOrders.{one_by_fields}
use Rattle.impl_tiles.proofs.Searches.{seen_at}
use Rattle.impl_tiles.proofs.Flats.{chunk_at}
use Rattle.impl_tiles.proofs.SpotFacts.{rises_own, has_key_here}
use Rattle.impl_tiles.proofs.spots.one_at.Goals as goal

pub returns-then-eq-clause-stands : goal.returns-then-eq-clause-stands
returns-then-eq-clause-stands c =
    let cs = c.args.chunks.now in
    let s = c.args.spot in
    let chunk = c.in_ok-get.ensures.lookup.3 in
    let there = c.in_ok-one.ensures.lookup.3 in
    let own : c.as_slice-held.result.now ≡ chunk_at cs s.chunk = c.as_slice-held.ensures ∙ chunk.1 [] in
    let rises = subst Rises (sym own) (rises_own cs s.chunk chunk.0 c.requires) in
    let is_key = one_by_fields c.in_ok-one.one.now.key c.args.key (sym c.eq.ensures ∙ c.if-eq.true) in
    let stands = seen_at c.as_slice-held.result.now c.args.key s.at rises there.0 (λ d. sym (ap (λ (h : KeyedPlace). h.key) (there.1 d)) ∙ is_key) in
    has_key_here cs c.args.key s chunk.0 c.requires (subst (λ l. StandsAt l c.args.key s.at) own stands)
