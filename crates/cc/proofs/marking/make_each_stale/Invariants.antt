-- The tiles so far are marked.
use Rattle.std.proofs.Common.{◌≡◌}
use Rattle.cc.specs.inner.Marks.{made_stale}
use Rattle.cc.proofs.Marked.{half}
use Rattle.cc.proofs.marking.make_each_stale.Given as goal

abbrev pub invariant-loop-i : goal.invariant-loop-i
invariant-loop-i l = l.kept.items ≡ half made_stale l.i l.fn.kept.items
