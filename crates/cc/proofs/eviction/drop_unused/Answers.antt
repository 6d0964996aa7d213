-- Those that were used lately are left.
use Rattle.std.proofs.Common.{nat_le}
use Rattle.cc.specs.declared.kept_tile.KeptTile.{KeptTile}
use Rattle.cc.proofs.Images.{filter_kept, filter_current}
use Rattle.cc.proofs.eviction.drop_unused.Goals as goal

pub returns-clause-kept : goal.returns-clause-kept
returns-clause-kept c = filter_kept c.args.active.now (λ (k : KeptTile). nat_le c.args.oldest k.used) c.args.kept.now.items c.drop_used_before.new.kept.items c.drop_used_before.ensures c.requires.kept

pub returns-clause-current : goal.returns-clause-current
returns-clause-current c = filter_current c.args.main.now (λ (k : KeptTile). nat_le c.args.oldest k.used) c.args.kept.now.items c.drop_used_before.new.kept.items c.drop_used_before.ensures c.requires.current
