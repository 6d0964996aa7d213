-- A scroll leaves the layers and the view, so what is current stays so.
use Rattle.std.proofs.Common.{[], ◌∷◌, rules}
use Rattle.cc.proofs.Pages.{current_moved}
use Rattle.cc.proofs.moves.move_main.Goals as goal

pub returns-clause-page : goal.returns-clause-page
returns-clause-page c = search rules

pub returns-clause-current : goal.returns-clause-current
returns-clause-current c = current_moved c.args.main.now c.move_one.new.page c.args.cache.now (record { scroller = c.args.id; dx = c.args.dx; dy = c.args.dy } ∷ []) (returns-clause-page c) c.requires
