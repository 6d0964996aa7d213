-- The newest entry is kept.
use Rattle.std.proofs.Common.{◌-◌, ◌≤◌, List, length, sym, subst}
use Rattle.model_history.specs.declared.history.Entry.{Entry}
use Rattle.test_histories.proofs.walk.takes.Goals as goal

pub is_newest-requires : goal.is_newest-requires
is_newest-requires c = subst (λ (es : List Entry). c.history.result.now.first ≤ length es - 1) (sym c.history.ensures.entries) c.history.ensures.newest
