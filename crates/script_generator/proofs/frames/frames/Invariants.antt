use Rattle.std.proofs.Common.{◌-◌, map}
use Rattle.script_generator.proofs.Fillings.{Framing}
use Rattle.script_generator.proofs.frames.frames.Given as goal

abbrev pub invariant-loop-number : goal.invariant-loop-number
invariant-loop-number l = Framing (map (λ (frame : _). frame.items) l.initial.frames.items) (map (λ (frame : _). frame.items) l.frames.items) l.initial.draws.kept l.draws.kept l.number

abbrev pub decreases-loop-number : goal.decreases-loop-number
decreases-loop-number l = 21 - l.number
