use Rattle.std.proofs.Common.{arith}
use Rattle.model_history.proofs.Gathers.{gathers_on, gathers_stop}
use Rattle.model_history.proofs.frame.take_commands.Goals as goal

pub returns-in-Err : goal.returns-in-Err
returns-in-Err c =
    gathers_stop c.args.tree.now c.args.commands.now c.loop-command.command-index c.loop-command.tree c.command-item.result c.loop-command.changes c.take_command.new.changes c.take_command.new.tree c.in-Err.error c.command-item.is (omega arith) c.in-Err.ensures c.loop-command.invariant

pub loop-command-preserved : goal.loop-command-preserved
loop-command-preserved c =
    gathers_on c.args.tree.now c.args.commands.now c.loop-command.command-index c.loop-command.tree c.command-item.result c.loop-command.changes c.take_command.new.changes c.take_command.new.tree c.command-item.is (omega arith) c.in_default.ensures c.loop-command.invariant
