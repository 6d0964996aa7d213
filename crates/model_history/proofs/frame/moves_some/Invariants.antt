use Rattle.std.proofs.Common.{drop, ◌≡◌}
use Rattle.std.specs.List.{list_any}
use Rattle.page_layers.specs.Axes.{named_in}
use Rattle.model_history.specs.inner.Ending.{is_moved}
use Rattle.model_history.proofs.frame.moves_some.Given as goal

abbrev pub invariant-loop-pull : goal.invariant-loop-pull
invariant-loop-pull l = list_any (is_moved l.before l.after l.pulls) (named_in (drop l.pull-index l.pulls)) ≡ list_any (is_moved l.before l.after l.pulls) (named_in l.pulls)
