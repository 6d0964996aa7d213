-- The keys beside the gap tell of all others.
use Rattle.std.proofs.Common.{◌≡◌, ◌<◌, ◌+◌, suc, [], length, drop, sym, ◌∙◌, subst, arith}
use Rattle.impl_tiles.specs.inner.Chunked.{flat}
use Rattle.impl_tiles.specs.inner.TileTables.{Rises, IsGapFor, After}
use Rattle.impl_tiles.proofs.Flats.{chunk_at}
use Rattle.impl_tiles.proofs.SpotFacts.{rises_own, has_gap_here}
use Rattle.impl_tiles.proofs.spots.is_gap_at.Goals as goal

pub is_gap-requires : goal.is_gap-requires
is_gap-requires c =
    let cs = c.args.chunks.now in
    let there = c.in-Some.ensures.lookup.3 in
    let own : c.as_slice-held.result.now ≡ chunk_at cs c.args.spot.chunk = c.as_slice-held.ensures ∙ there.1 [] in
    subst Rises (sym own) (rises_own cs c.args.spot.chunk there.0 c.requires.rises)

pub returns-then-spot-held : goal.returns-then-spot-held
returns-then-spot-held c = λ _.
    let cs = c.args.chunks.now in
    let s = c.args.spot in
    let there = c.in-Some.ensures.lookup.3 in
    let own : c.as_slice-held.result.now ≡ chunk_at cs s.chunk = c.as_slice-held.ensures ∙ there.1 [] in
    let short : s.at < length (chunk_at cs s.chunk) = subst (λ l. s.at < length l) own c.if-spot-held.true in
    has_gap_here cs c.args.key s there.0 c.requires.rises (subst (λ l. IsGapFor l c.args.key s.at) own (c.is_gap.ensures c.if-not-is_gap.false))
    (c.begins.ensures c.if-not-begins.false) (λ past. absurd (omega (arith, past, short)))

pub returns-else-spot-held : goal.returns-else-spot-held
returns-else-spot-held c = λ told.
    let cs = c.args.chunks.now in
    let s = c.args.spot in
    let there = c.in-Some.ensures.lookup.3 in
    let own : c.as_slice-held.result.now ≡ chunk_at cs s.chunk = c.as_slice-held.ensures ∙ there.1 [] in
    has_gap_here cs c.args.key s there.0 c.requires.rises (subst (λ l. IsGapFor l c.args.key s.at) own (c.is_gap.ensures c.if-not-is_gap.false))
    (c.begins.ensures c.if-not-begins.false) (λ _. subst (λ k. After c.args.key (flat (drop k cs))) {x = s.chunk + 1} {y = suc s.chunk} (omega arith) (c.are_above_from.ensures told))
