-- The lines of the entries before, and of those left, are those of all.
use Rattle.std.proofs.Common.{◌≡◌, ◌++◌, drop}
use Rattle.proxy_threads.specs.inner.Steps.{lines_of}
use Rattle.proxy_threads.proofs.lines.Lines.gather.Given as goal

abbrev pub invariant-loop-at : goal.invariant-loop-at
invariant-loop-at l = (l.self.text.items ++ lines_of (drop l.at l.history.entries) ≡ lines_of (drop l.from l.history.entries)) × (l.self.over ≡ l.fn.self.over)
