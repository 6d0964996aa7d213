-- The scrollers that the commands so far set outright.
use Rattle.std.proofs.Common.{ℕ, ◌≡◌, take}
use Rattle.std.specs.List.{list_any}
use Rattle.model_history.specs.Scrolls.{scrolls_to}
use Rattle.impl_scroll.specs.Rows.{has_number}
use Rattle.impl_scroll.proofs.clobbering.clobbered_by.Given as goal

abbrev pub invariant-loop-command : goal.invariant-loop-command
invariant-loop-command l = (sc : ℕ) → has_number l.ids.items sc ≡ list_any (scrolls_to sc) (take l.command-index l.commands)
