use Rattle.std.proofs.Common.{rules}
use Rattle.cc.proofs.Images.{insert_cached}
use Rattle.cc.proofs.making.keep.Goals as goal

pub returns-in-Ok : goal.returns-in-Ok
returns-in-Ok c = record { cached = insert_cached c.args.pages.active.now c.args.pages.main.now c.args.kept.now.items c.insert_at.new.kept.items c.args.at c.args.one (search rules) c.requires.cached c.requires.one c.requires.one_current }
