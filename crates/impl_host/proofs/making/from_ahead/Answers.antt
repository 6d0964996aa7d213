-- The tree that is taken apart has one commit more.
use Rattle.std.proofs.Common.{List, sym, ◌∙◌, subst}
use Rattle.page_layers.specs.Pages.{Page}
use Rattle.region.specs.Lists.{Changed}
use Rattle.tile_tiling.specs.Tiles.{Tiled}
use Rattle.impl_host.specs.Trees.{TreeModel}
use Rattle.impl_host.specs.inner.Steps.{Leads}
use Rattle.impl_host.proofs.making.from_ahead.Goals as goal

pub add_ahead-requires-clause-leads : goal.add_ahead-requires-clause-leads
add_ahead-requires-clause-leads c =
    let a : TreeModel = c.args.active.now in
    let t : TreeModel = c.args.taken in
    let parts = c.into_parts-tree.ensures in (
      t.frame,
      subst (λ (p : Page). Leads a.page a.tilings (record { frame = t.frame; changed = c.into_parts-tree.result.1 }) p c.into_parts-tree.result.2.items) (sym (c.deref.ensures ∙ parts.page))
          (subst (λ (ts : List Tiled). Leads a.page a.tilings (record { frame = t.frame; changed = c.into_parts-tree.result.1 }) t.page ts) (sym parts.tilings)
          (subst (λ (d : Changed). Leads a.page a.tilings (record { frame = t.frame; changed = d }) t.page t.tilings) (sym parts.changed) c.requires.follows)),
    )
