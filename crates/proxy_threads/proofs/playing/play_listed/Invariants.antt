-- Nothing was entered, and none of the kinds before may come.
use Rattle.std.proofs.Common.{◌≡◌, length}
use Rattle.proxy_threads.specs.inner.Steps.{AreOwn, NoneNow}
use Rattle.proxy_threads.proofs.playing.play_listed.Given as goal

abbrev pub invariant-loop-rest : goal.invariant-loop-rest
invariant-loop-rest l = (l.core ≡ l.fn.core) × AreOwn l.rest × (NoneNow l.rest l.fn.core → NoneNow l.kinds l.fn.core)

abbrev pub decreases-loop-rest : goal.decreases-loop-rest
decreases-loop-rest l = length l.rest
