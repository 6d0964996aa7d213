-- A scroll leaves the layers and the view, so what is kept stays so.
use Rattle.std.proofs.Common.{rules}
use Rattle.cc.proofs.Pages.{kept_scrolled}
use Rattle.cc.proofs.moves.scroll_active.Goals as goal

pub returns-clause-page : goal.returns-clause-page
returns-clause-page c = search rules

pub returns-clause-kept : goal.returns-clause-kept
returns-clause-kept c = kept_scrolled c.args.active.now c.pull.new.self c.args.cache.now c.args.id c.args.dx c.args.dy (returns-clause-page c) c.requires.kept
