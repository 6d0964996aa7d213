-- What the commands left make of the view now is what all make of the first.
use Rattle.std.proofs.Common.{◌≡◌, drop}
use Rattle.recording_text.specs.Views as spec
use Rattle.recording_text.proofs.views.view_through.Given as goal

abbrev pub invariant-loop-command : goal.invariant-loop-command
invariant-loop-command l = spec.view_through l.current (drop l.command-index l.commands) ≡ spec.view_through l.fn.view l.commands
