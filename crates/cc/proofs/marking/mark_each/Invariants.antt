-- The tiles so far are marked.
use Rattle.std.proofs.Common.{◌≡◌}
use Rattle.cc.specs.inner.Marks.{marked}
use Rattle.cc.proofs.Marked.{half}
use Rattle.cc.proofs.marking.mark_each.Given as goal

abbrev pub invariant-loop-i : goal.invariant-loop-i
invariant-loop-i l = l.kept.items ≡ half (marked l.tree l.changes) l.i l.fn.kept.items
