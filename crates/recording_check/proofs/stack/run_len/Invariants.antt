use Rattle.std.proofs.Common.{◌≡◌, ◌+◌, drop}
use Rattle.std.specs.List.{prefix_len}
use Rattle.page_layers.specs.inner.Runs.{lies_in}
use Rattle.recording_check.specs.inner.Sheets.{effects_of}
use Rattle.recording_check.proofs.stack.run_len.Given as goal

abbrev pub invariant-loop-sheet : goal.invariant-loop-sheet
invariant-loop-sheet l = (l.len ≡ l.sheet-index) × (l.len + prefix_len (lies_in effects_of l.depth l.effect) (drop l.sheet-index l.sheets) ≡ prefix_len (lies_in effects_of l.depth l.effect) l.sheets)
