-- Both parts are copies.
use Rattle.impl_core.proofs.drawing.Drawing.copy.Goals as goal

pub returns : goal.returns
returns c = λ i. record { scene = c.in_ok-scene.ensures i; missing = c.in_ok-missing.ensures i }
