use Rattle.cc.proofs.Images.{stale_kept, stale_all}
use Rattle.cc.proofs.marking.mark_all.Goals as goal

pub returns-clause-kept : goal.returns-clause-kept
returns-clause-kept c = stale_kept c.args.active.now c.args.kept.now.items c.make_each_stale.new.kept.items c.make_each_stale.ensures c.requires

pub returns-clause-current : goal.returns-clause-current
returns-clause-current c = stale_all c.args.main.now c.args.kept.now.items c.make_each_stale.new.kept.items c.make_each_stale.ensures
