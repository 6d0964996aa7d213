-- The twin is stepped.
use Rattle.std.proofs.Common.{◌∙◌}
use Rattle.impl_host.specs.inner.Steps.{changes_all}
use Rattle.impl_host.proofs.Standing.{not_both}
use Rattle.impl_host.proofs.Twins.{twin_stepped}
use Rattle.impl_host.proofs.making.stepped.Goals as goal

pub returns-clause-next : goal.returns-clause-next
returns-clause-next c = record {
  grid = c.step.ensures.grid ∙ c.in_ok-tiling.ensures.twin.0;
  anew = λ e. absurd (not_both (changes_all c.args.changes.now c.args.layer) e c.requires.part);
  stepped = twin_stepped c.args.last.now c.args.layer (record { frame = c.args.frame; changed = c.args.changes.now }) c.in_ok-tiling.tiling c.step.new.tiling c.in_ok-tiling.ensures.twin.1 c.step.ensures.grid c.step.ensures.stepped;
}
