-- The sides of a layer are in range in every page.
use Rattle.page_layers.proofs.Placing.{sizes}
use Rattle.page_layers.proofs.tree.LayerTree.are_sized.Goals as goal

pub returns : goal.returns
returns c = sizes c.args.self.now.props c.args.self.now.used c.args.layers.now c.args.self.now.layers c.requires c.is_page.ensures.layers
