-- The views found, before those of the frames left, are those of all.
use Rattle.std.proofs.Common.{◌≡◌, ◌++◌, drop, map}
use Rattle.recording_text.specs.Views as spec
use Rattle.recording_text.proofs.views.views_through.Given as goal

abbrev pub invariant-loop-frame : goal.invariant-loop-frame
invariant-loop-frame l = l.views.items ++ spec.views_through l.current (map (λ frame. frame.items) (drop l.frame-index l.main)) ≡ spec.views_through l.fn.first (map (λ frame. frame.items) l.main)
