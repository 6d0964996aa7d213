-- What some bytes do to a sink that they are put into, at once or piece by piece.
use Rattle.std.specs.Prelude.{◌≡◌, ℕ, ◌≤◌, List, Result}
use Rattle.byte_io.specs.Pieces.{PutsAll, WriteCause}
use Rattle.byte_io.specs.declared.writing.PutFault.{PutFault}
use Rattle.byte_io.specs.declared.writing.Sink as sink

-- `new` is the sink `old` after some bytes were put into it, with this answer
pub record PutsBytes {K P X : Type 0} (k : sink.Ghosts K P) (old new : K) (whole : List ℕ) (result : Result X PutFault) : Type 0 where
  -- it gained them, or if the answer is a fault, a prefix of them
  pub bytes : PutsAll (k.held old) (k.held new) whole result
  -- its counts of faults and of refused puts never fall
  pub grows : k.faults old ≤ k.faults new
  pub refusals : k.refusals old ≤ k.refusals new
  -- a fault of the sink is answered only if the count of faults rose
  pub cause : WriteCause (k.faults old) (k.faults new) result
  -- it is still the same sink
  pub place : k.place new ≡ k.place old
