-- The rows so far are listed.
use Rattle.std.proofs.Common.{◌≡◌, take}
use Rattle.page_layers.specs.Axes.{listed}
use Rattle.impl_scroll.specs.inner.Stages.{unheard}
use Rattle.impl_scroll.specs.inner.Steps.{ids_of}
use Rattle.impl_scroll.proofs.listing.unheard_moves.Given as goal

abbrev pub invariant-loop-row : goal.invariant-loop-row
invariant-loop-row l = l.moves ≡ listed (unheard l.rows) (ids_of (take l.row-index l.rows))
