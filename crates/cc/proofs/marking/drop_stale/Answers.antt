-- Those that are not stale are left.
use Rattle.std.proofs.Common.{not}
use Rattle.cc.specs.declared.kept_tile.KeptTile.{KeptTile}
use Rattle.cc.proofs.Images.{left_kept, filter_current}
use Rattle.cc.proofs.marking.drop_stale.Goals as goal

pub returns-clause-kept : goal.returns-clause-kept
returns-clause-kept c = left_kept c.args.main.now c.args.kept.now.items c.leave_current.new.kept.items c.leave_current.ensures c.requires

pub returns-clause-current : goal.returns-clause-current
returns-clause-current c = filter_current c.args.main.now (λ (k : KeptTile). not k.is_stale) c.args.kept.now.items c.leave_current.new.kept.items c.leave_current.ensures c.requires
