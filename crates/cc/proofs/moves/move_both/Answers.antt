-- Scrolls leave the layers and the view, so what is kept and what is current stays so.
use Rattle.std.proofs.Common.{map}
use Rattle.page_hit_test.specs.Wheels.{part_move}
use Rattle.cc.proofs.Pages.{kept_moved, current_moved}
use Rattle.cc.proofs.moves.move_both.Goals as goal

pub returns-clause-kept : goal.returns-clause-kept
returns-clause-kept c = kept_moved c.args.active.now c.move_parts.new.page c.args.cache.now (map part_move c.args.parts.now) c.move_parts.ensures c.requires.kept

pub returns-clause-current : goal.returns-clause-current
returns-clause-current c = current_moved c.args.main.now c.move_parts-2.new.page c.args.cache.now (map part_move c.args.parts.now) c.move_parts-2.ensures c.requires.current
