-- The tree that is taken apart lacks the active tree's commit.
use Rattle.std.proofs.Common.{List, sym, ◌∙◌, subst}
use Rattle.page_layers.specs.Pages.{Page}
use Rattle.tile_tiling.specs.Tiles.{Tiled}
use Rattle.impl_host.specs.Trees.{TreeModel, commit_of}
use Rattle.impl_host.specs.inner.Steps.{Leads}
use Rattle.impl_host.proofs.making.from_behind.Goals as goal

pub add_behind-requires-clause-leads : goal.add_behind-requires-clause-leads
add_behind-requires-clause-leads c =
    let a : TreeModel = c.args.active.now in
    let parts = c.into_parts-tree.ensures in
    subst (λ (p : Page). Leads p c.into_parts-tree.result.2.items (commit_of a) a.page a.tilings) (sym (c.deref.ensures ∙ parts.page))
    (subst (λ (ts : List Tiled). Leads c.args.old.page ts (commit_of a) a.page a.tilings) (sym parts.tilings) c.requires.follows)
