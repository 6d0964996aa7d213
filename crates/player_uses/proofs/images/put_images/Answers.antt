-- The images before, the current image and those left are all.
use Rattle.std.proofs.Common.{◌++◌, length, subst, arith}
use Rattle.std.specs.List.{flat_map}
use Rattle.recording_text.specs.Spans.{span_bytes, AreWithin}
use Rattle.thread_pieces.proofs.Gains.{gains_both, gains_front}
use Rattle.player_uses.proofs.Gains.{piece_moves}
use Rattle.player_uses.proofs.images.put_images.Goals as goal

pub put_image-requires : goal.put_image-requires
put_image-requires g c = (subst (AreWithin (length c.args.bytes.now)) c.in-Some.ensures.cases.0 c.loop-span.invariant.3).0

pub returns-in-Err-clause-bytes : goal.returns-in-Err-clause-bytes
returns-in-Err-clause-bytes g c =
    let i = c.loop-span.invariant in
    gains_front _ _ _ i.0 (span_bytes c.args.bytes.now c.in-Some.span.now) (flat_map (span_bytes c.args.bytes.now) c.in-Some.after.now) _ i.1 c.in-Err.ensures.bytes
    (piece_moves (span_bytes c.args.bytes.now) i.0 _ c.in-Some.span.now c.loop-span.rest.now c.in-Some.after.now c.in-Some.ensures.cases.0 i.2)

pub loop-span-preserved : goal.loop-span-preserved
loop-span-preserved g c =
    let i = c.loop-span.invariant in (
      i.0 ++ span_bytes c.args.bytes.now c.in-Some.span.now,
      gains_both _ _ _ i.0 (span_bytes c.args.bytes.now c.in-Some.span.now) i.1 c.in_default-put_image.ensures.bytes,
      piece_moves (span_bytes c.args.bytes.now) i.0 _ c.in-Some.span.now c.loop-span.rest.now c.in-Some.after.now c.in-Some.ensures.cases.0 i.2,
      (subst (AreWithin (length c.args.bytes.now)) c.in-Some.ensures.cases.0 i.3).1,
      omega (arith, c.in_default-put_image.ensures.grows, i.4),
    )
