use Rattle.std.proofs.Common.{sym, subst}
use Rattle.cc.specs.KeptTiles.{AreKeptFor, AreCurrent}
use Rattle.cc.proofs.cache.TileCache.mark.Goals as goal

pub returns-clause-kept : goal.returns-clause-kept
returns-clause-kept c = λ p all. c.mark.ensures.kept p (subst (AreKeptFor p) (sym c.self.view_is) all)

pub returns-clause-current : goal.returns-clause-current
returns-clause-current c = λ p k is ok e lists all. c.mark.ensures.current p k is ok e lists (subst (AreCurrent p) (sym c.self.view_is) all)
