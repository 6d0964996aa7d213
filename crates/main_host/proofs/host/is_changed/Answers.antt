use Rattle.std.proofs.Common.{sym}
use Rattle.main_host.proofs.HostFacts.{told}
use Rattle.main_host.proofs.host.is_changed.Goals as goal

pub returns : goal.returns
returns c =
    told c.args.script.now c.args.sends.now.items c.args.pulls.now c.as_slice.result.now c.args.frame c.args.before.now c.args.after.now c.changes_something.result c.requires.next.0 c.requires.next.1 c.as_slice.ensures (c.changes_something.ensures c.args.script.now c.args.frame (sym c.commands.ensures))
