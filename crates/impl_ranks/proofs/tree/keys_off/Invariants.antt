-- Those of the keys so far were added, and the layers are the same.
use Rattle.std.proofs.Common.{◌≡◌, not, filter, take}
use Rattle.impl_ranks.specs.inner.Lists.{seen_has}
use Rattle.impl_ranks.proofs.tree.keys_off.Given as goal

abbrev pub invariant-loop-key : goal.invariant-loop-key
invariant-loop-key l = (l.lacked ≡ filter (λ q. not (seen_has l.layers q)) (take l.key-index l.keys)) × (l.run ≡ l.layers)
