-- Each turn puts one drawn item in.
use Rattle.std.proofs.Common.{arith}
use Rattle.script_generator.proofs.Fillings.{inserted, all_inserted}
use Rattle.script_generator.proofs.frames.push_items.Goals as goal

pub loop-at-preserved : goal.loop-at-preserved
loop-at-preserved c =
    inserted c.args.commands.now.items c.loop-at.commands.items c.push.new.self.items c.args.draws.now.kept c.loop-at.draws.kept c.drawn_item-item.new.draws.kept c.loop-at.at c.drawn_item-item.result
    c.loop-at-test.true c.loop-at.invariant c.in_ok-push.ensures.items c.drawn_item-item.ensures.value c.drawn_item-item.ensures.kept

pub returns : goal.returns
returns c = all_inserted c.args.commands.now.items c.loop-at.commands.items c.args.draws.now.kept c.loop-at.draws.kept c.loop-at.at (omega (arith, c.loop-at-test.false)) c.loop-at.invariant
