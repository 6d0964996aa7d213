-- The best rect so far is one of the list.
use Rattle.std.specs.Prelude.{◌<◌, length, IfSome}
use Rattle.viz_damage.proofs.areas.partner_of.Given as given

abbrev pub invariant-loop-place : given.invariant-loop-place
invariant-loop-place l = IfSome l.best (λ place. place < length l.rects)
