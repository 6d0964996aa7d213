-- The entry at the last place tells.
use Rattle.std.proofs.Common.{◌≡◌, ◌-◌, List, length, Some, slice_get, sym, ◌∙◌, ap, arith}
use Rattle.model_history.specs.declared.history.Entry.{Entry}
use Rattle.impl_log.specs.Runs.{Run}
use Rattle.impl_core.specs.Replies.{is_played}
use Rattle.impl_core.proofs.LastEntry.{last_at}
use Rattle.impl_core.proofs.core_state.Core.is_over.Goals as goal

pub entry-newest-requires-clause-kept : goal.entry-newest-requires-clause-kept
entry-newest-requires-clause-kept c =
    let es : List Entry = c.history-entries.result.now.entries in
    let same : length es ≡ length c.self.inside.log.entries = ap (λ (xs : List Entry). length xs) c.history-entries.ensures.entries in
    let count = c.len-count.ensures in
    let newest = c.history-entries.ensures.newest in
    omega (arith, same, count, newest)

pub returns : goal.returns
returns c =
    let es : List Entry = c.history-entries.result.now.entries in
    let at_last : slice_get es (length es - 1) ≡ Some c.entry-newest.result.now = ap (λ n. slice_get es (n - 1)) (sym c.len-count.ensures) ∙ c.entry-newest.ensures in
    c.is_end.ensures ∙ (sym (last_at es c.entry-newest.result.now at_last) ∙ (ap is_played c.history-entries.ensures.entries ∙ ap (λ (z : Run). is_played z.entries) c.self.view_is))
