-- Each turn adds one drawn input.
use Rattle.std.proofs.Common.{arith}
use Rattle.script_generator.proofs.Fillings.{one_drawn, all_drawn}
use Rattle.script_generator.proofs.inputs.push_drawn.Goals as goal

pub loop-left-preserved : goal.loop-left-preserved
loop-left-preserved c =
    one_drawn c.args.inputs.now.items c.loop-left.inputs.items c.push.new.self.items c.args.draws.now.kept c.loop-left.draws.kept c.drawn_input.new.draws.kept c.loop-left.left c.drawn_input.result
    c.loop-left-test.true c.loop-left.invariant c.in_ok-push.ensures.items c.drawn_input.ensures.value c.drawn_input.ensures.kept

pub returns : goal.returns
returns c = all_drawn c.args.inputs.now.items c.loop-left.inputs.items c.args.draws.now.kept c.loop-left.draws.kept c.loop-left.left (omega (arith, c.loop-left-test.false)) c.loop-left.invariant
