use Rattle.std.proofs.Common.{sym}
use Rattle.model_history.proofs.FrameTells.{tells_where_none}
use Rattle.model_history.proofs.frame.changes_something.Goals as goal

pub returns-in-empty : goal.returns-in-empty
returns-in-empty c = λ s k own.
    tells_where_none s k c.args.pulls.now c.args.before.now c.args.after.now c.moves_some.result c.args.commands.now (sym own) c.in-empty.len_below c.moves_some.ensures
