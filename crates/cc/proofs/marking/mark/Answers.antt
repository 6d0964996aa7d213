-- All tiles are marked where they are touched.
use Rattle.std.proofs.Common.{List, sym, subst}
use Rattle.cc.specs.declared.kept_tile.KeptTile.{KeptTile}
use Rattle.cc.specs.KeptTiles.{AreKeptFor, AreCurrent}
use Rattle.cc.proofs.Marked.{marked_kept, marked_current}
use Rattle.cc.proofs.marking.mark.Goals as goal

pub returns-clause-kept : goal.returns-clause-kept
returns-clause-kept c = λ p all. subst (λ (ks : List KeptTile). AreKeptFor p ks) (sym c.mark_each.ensures) (marked_kept p c.args.tree.now c.args.changes.now c.args.kept.now.items all)

pub returns-clause-current : goal.returns-clause-current
returns-clause-current c = λ p k is ok e lists all. subst (λ (ks : List KeptTile). AreCurrent c.args.tree.now ks) (sym c.mark_each.ensures) (marked_current p c.args.tree.now k c.args.changes.now c.args.kept.now.items is ok e lists all)
