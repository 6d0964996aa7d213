use Rattle.std.proofs.Common.{ap, ◌∙◌, subst}
use Rattle.page_layers.specs.Pages.{Page}
use Rattle.page_layers.specs.Sound.{AreDistinctLayers}
use Rattle.impl_ranks.specs.SeenTrees.{SeenTreeModel}
use Rattle.impl_ranks.proofs.SeenLayers.{has_is}
use Rattle.impl_ranks.proofs.tree.SeenTree.has.Goals as goal

pub returns : goal.returns
returns c = λ t is.
    c.layers_have.ensures
    ∙ has_is t c.args.self.now c.args.key (subst (λ (p : Page). AreDistinctLayers p.layers) (ap (λ (r : SeenTreeModel). r.page) c.self.view_is ∙ is.page) c.is_page.ensures.distinct) is
