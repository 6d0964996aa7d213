-- Nothing is lost, and no more is forgotten than is asked for.
use Rattle.std.proofs.Common.{◌≡◌, ◌-◌, ◌≤◌, max}
use Rattle.impl_log.proofs.kept_history.KeptHistory.forget.Given as goal

abbrev pub invariant-loop-self : goal.invariant-loop-self
invariant-loop-self l = record {
  entries : l.self.entries ≡ l.initial.self.entries;
  front : l.initial.self.first ≤ l.self.first;
  few : l.self.first ≤ max l.initial.self.first l.place;
  spare : l.initial.self.spare ≤ l.self.spare;
}

abbrev pub decreases-loop-self : goal.decreases-loop-self
decreases-loop-self l = l.place - l.self.first
