-- The fragments before, the current fragment and those left are the whole.
use Rattle.std.proofs.Common.{◌++◌, arith}
use Rattle.std.specs.List.{flat_map}
use Rattle.player_uses.specs.inner.Fragments.{fragment_text}
use Rattle.player_uses.proofs.Gains.{piece_moves}
use Rattle.thread_pieces.proofs.Gains.{gains_both, gains_front}
use Rattle.player_uses.proofs.fragments.put_fragments.Goals as goal

pub returns-in-Err-clause-bytes : goal.returns-in-Err-clause-bytes
returns-in-Err-clause-bytes g c =
    let i = c.loop-fragment.invariant in
    gains_front _ _ _ i.0 (fragment_text c.in-Some.fragment.now) (flat_map fragment_text c.in-Some.after.now) _ i.1 c.in-Err.ensures.bytes
    (piece_moves fragment_text i.0 _ c.in-Some.fragment.now c.loop-fragment.rest.now c.in-Some.after.now c.in-Some.ensures.cases.0 i.2)

pub loop-fragment-preserved : goal.loop-fragment-preserved
loop-fragment-preserved g c =
    let i = c.loop-fragment.invariant in (
      i.0 ++ fragment_text c.in-Some.fragment.now,
      gains_both _ _ _ i.0 (fragment_text c.in-Some.fragment.now) i.1 c.in_default-put_fragment.ensures.bytes,
      piece_moves fragment_text i.0 _ c.in-Some.fragment.now c.loop-fragment.rest.now c.in-Some.after.now c.in-Some.ensures.cases.0 i.2,
      omega (arith, c.in_default-put_fragment.ensures.grows, i.3),
      omega (arith, c.in_default-put_fragment.ensures.refused, i.4),
    )
