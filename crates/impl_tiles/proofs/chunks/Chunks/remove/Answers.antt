-- The key leaves its chunk, which goes where it is empty then.
use Rattle.std.proofs.Common.{◌≡◌, List, [], length, set, sym, ◌∙◌, ap, subst}
use Rattle.std.proofs.lemmas.List.{get_or-set_same, nil_from_length}
use Rattle.std.specs.List.{remove}
use Rattle.impl_tiles.specs.inner.Chunked.{flat, index_of, IsSpot}
use Rattle.impl_tiles.specs.declared.held.KeyedPlace.{KeyedPlace}
use Rattle.impl_tiles.proofs.Flats.{chunk_at, chunk_is, removed_in, removed_with}
use Rattle.impl_tiles.proofs.chunks.Chunks.remove.Goals as goal

pub returns-then-len-eq0-clause-held : goal.returns-then-len-eq0-clause-held
returns-then-len-eq0-clause-held c =
    let cs : List (List KeyedPlace) = c.self.inside.chunks.items in
    let s = c.args.spot in
    let spot : IsSpot cs s = subst (λ m. IsSpot m.chunks s) (sym c.self.view_is) c.requires in
    let own : c.index_mut.result.now ≡ chunk_at cs s.chunk = chunk_is cs s.chunk c.index_mut.result.now spot.chunk c.index_mut.ensures.value in
    let left : c.remove-one.new.self ≡ remove (chunk_at cs s.chunk) s.at = c.remove-one.ensures.held ∙ ap (λ l. remove l s.at) own in
    let read : c.index.result.now ≡ c.remove-one.new.self = c.index.ensures ∙ get_or-set_same cs s.chunk c.remove-one.new.self c.index.result.now spot.chunk in
    let none : c.remove-one.new.self ≡ [] = nil_from_length c.remove-one.new.self (sym (ap length read) ∙ (sym c.len.ensures.value ∙ c.if-len-eq0.true)) in
    ap flat (c.remove.ensures.items ∙ ap (λ l. remove (set cs s.chunk l) s.chunk) left)
    ∙ removed_with cs s spot.chunk spot.at (sym left ∙ none)
    ∙ ap (λ m. remove (flat m.chunks) (index_of m.chunks s)) c.self.view_is

pub returns-else-len-eq0-clause-held : goal.returns-else-len-eq0-clause-held
returns-else-len-eq0-clause-held c =
    let cs : List (List KeyedPlace) = c.self.inside.chunks.items in
    let s = c.args.spot in
    let spot : IsSpot cs s = subst (λ m. IsSpot m.chunks s) (sym c.self.view_is) c.requires in
    let own : c.index_mut.result.now ≡ chunk_at cs s.chunk = chunk_is cs s.chunk c.index_mut.result.now spot.chunk c.index_mut.ensures.value in
    let left : c.remove-one.new.self ≡ remove (chunk_at cs s.chunk) s.at = c.remove-one.ensures.held ∙ ap (λ l. remove l s.at) own in
    ap (λ l. flat (set cs s.chunk l)) left
    ∙ removed_in cs s spot.chunk spot.at
    ∙ ap (λ m. remove (flat m.chunks) (index_of m.chunks s)) c.self.view_is
