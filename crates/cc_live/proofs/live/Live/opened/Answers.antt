use Rattle.std.proofs.Common.{sym}
use Rattle.cc_live.proofs.MainEnds.{flying_bounded}
use Rattle.cc_live.proofs.live.Live.opened.Goals as goal

pub opened_with-requires : goal.opened_with-requires
opened_with-requires c = flying_bounded c.self.inside.core c.in-Some.field-0-0 c.in-Some.pulls.now c.is_legal.ensures.legal c.is_legal.ensures.playable (sym c.in-Some.ensures)
