use Rattle.std.proofs.Common.{subst}
use Rattle.page_layers.specs.Sound.{IsPage}
use Rattle.page_layers.proofs.KeptPages.{promised}
use Rattle.page_layers.proofs.tree.LayerTree.apply.Goals as goal

pub returns : goal.returns
returns c = promised c.args.self.now c.dispatch.new.self c.args.command.now c.dispatch.result (subst IsPage c.self.view_is c.self.invariant) c.dispatch.ensures
