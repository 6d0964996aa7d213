use Rattle.std.proofs.Common.{drop}
use Rattle.model_history.proofs.Leads.{Leads}
use Rattle.model_history.proofs.applying.apply_frame.Given as goal

abbrev pub invariant-loop-place : goal.invariant-loop-place
invariant-loop-place l = Leads l.fn.tree l.commands l.place l.tree (drop l.place l.commands)
