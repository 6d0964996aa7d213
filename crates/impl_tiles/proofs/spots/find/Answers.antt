-- The chunk of the key has it, or no chunk has.
use Rattle.std.proofs.Common.{◌≡◌, suc, ◌+◌, drop, sym, ◌∙◌, subst, arith}
use Rattle.impl_tiles.specs.inner.Chunked.{flat}
use Rattle.impl_tiles.specs.inner.TileTables.{After, Rises, StandsAt, IsGapFor}
use Rattle.impl_tiles.proofs.Flats.{chunk_at, after_chunk, chunk_is}
use Rattle.impl_tiles.proofs.SpotFacts.{rises_own, has_key, has_gap}
use Rattle.impl_tiles.proofs.spots.find.Goals as goal

pub search-requires : goal.search-requires
search-requires c =
    let cs = c.args.chunks.now in
    let n = c.chunk_for-chunk.result in
    let lt = c.chunk_for-chunk.ensures.bound in
    let own : c.as_slice.result.now ≡ chunk_at cs n = c.as_slice.ensures ∙ chunk_is cs n c.index-chunks-chunk.result lt c.index-chunks-chunk.is in
    subst Rises (sym own) (rises_own cs n lt c.requires.rises)

pub returns-in-Ok-clause-found : goal.returns-in-Ok-clause-found
returns-in-Ok-clause-found c =
    let cs = c.args.chunks.now in
    let n = c.chunk_for-chunk.result in
    let lt = c.chunk_for-chunk.ensures.bound in
    let own : c.as_slice.result.now ≡ chunk_at cs n = c.as_slice.ensures ∙ chunk_is cs n c.index-chunks-chunk.result lt c.index-chunks-chunk.is in
    let after : After c.args.key (after_chunk cs n) = subst (λ k. After c.args.key (flat (drop k cs))) {x = n + 1} {y = suc n} (omega arith) c.chunk_for-chunk.ensures.after in
    has_key cs c.args.key (record { chunk = n; at = c.in-Ok.at }) lt (subst (λ l. StandsAt l c.args.key c.in-Ok.at) own c.in-Ok.ensures.found) c.chunk_for-chunk.ensures.before after

pub returns-in-Err-clause-absent : goal.returns-in-Err-clause-absent
returns-in-Err-clause-absent c =
    let cs = c.args.chunks.now in
    let n = c.chunk_for-chunk.result in
    let lt = c.chunk_for-chunk.ensures.bound in
    let own : c.as_slice.result.now ≡ chunk_at cs n = c.as_slice.ensures ∙ chunk_is cs n c.index-chunks-chunk.result lt c.index-chunks-chunk.is in
    let after : After c.args.key (after_chunk cs n) = subst (λ k. After c.args.key (flat (drop k cs))) {x = n + 1} {y = suc n} (omega arith) c.chunk_for-chunk.ensures.after in
    has_gap cs c.args.key (record { chunk = n; at = c.in-Err.at }) lt (subst (λ l. IsGapFor l c.args.key c.in-Err.at) own c.in-Err.ensures.absent) c.chunk_for-chunk.ensures.before after
