-- The pending tree comes after the active one, and nothing is left to be used again.
use Rattle.std.proofs.Common.{sym, subst}
use Rattle.page_layers.specs.Pages.{Page}
use Rattle.impl_host.specs.declared.recycled.Recycled.{Recycled}
use Rattle.impl_host.specs.inner.Steps.{AreMade, IsRecycled}
use Rattle.impl_host.proofs.trees.Trees.push.Goals as goal

pub invariant_of-self : goal.invariant_of-self
invariant_of-self c =
    let made : AreMade c.self.inside.active c.args.tree.value c.args.changes c.args.frame c.in-Ok.tilings.items =
    subst (λ (p : Page). AreMade c.self.inside.active p c.args.changes c.args.frame c.in-Ok.tilings.items) c.deref.ensures c.in-Ok.ensures in
    (made.follow, subst (λ (r : Recycled). IsRecycled c.self.inside.active r) (sym c.replace-recycled.ensures.after) tt)
