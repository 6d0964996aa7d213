-- Each turn adds one later frame.
use Rattle.std.proofs.Common.{arith}
use Rattle.script_generator.proofs.Fillings.{mapped_more, mapped_one, one_framed, all_frames}
use Rattle.script_generator.proofs.frames.frames.Goals as goal

pub loop-number-preserved : goal.loop-number-preserved
loop-number-preserved c =
    one_framed _ _ _ _ _ _ c.loop-number.number c.in_ok-later_frame.field-0.items (omega (arith, c.loop-number-test.true)) c.loop-number.invariant
    (mapped_more _ c.loop-number.frames.items _ _ c.in_ok-push-2.ensures.items) c.in_ok-later_frame.ensures.0 c.in_ok-later_frame.ensures.1

pub returns : goal.returns
returns c =
    all_frames _ _ c.args.draws.now.kept _ c.loop-number.draws.kept c.loop-number.number c.in_ok-first_frame.field-0.items (omega (arith, c.loop-number-test.false)) c.loop-number.invariant
    (mapped_one _ c.new-frames.result.items _ _ c.new-frames.ensures.items c.in_ok-push.ensures.items) c.in_ok-first_frame.ensures.0 c.in_ok-first_frame.ensures.1
