use Rattle.std.proofs.Common.{drop, map}
use Rattle.model_history.proofs.Leads.{LeadsFrames}
use Rattle.model_history.proofs.applying.apply_frames.Given as goal

abbrev pub invariant-loop-place : goal.invariant-loop-place
invariant-loop-place l = LeadsFrames l.fn.tree (map (λ frame. frame.items) l.frames) l.place l.tree (map (λ frame. frame.items) (drop l.place l.frames))
