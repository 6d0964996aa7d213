use Rattle.std.proofs.Common.{ℕ, List, ap, subst, sym, ◌∙◌}
use Rattle.geom.specs.declared.rect.Point.{Point}
use Rattle.page_properties.specs.OffsetMap.{IsOffset}
use Rattle.page_properties.specs.Entries.{find}
use Rattle.page_layers.specs.Scrolls.{or_origin}
use Rattle.page_layers.proofs.NodeKeeps.{values-offset}
use Rattle.page_layers.proofs.tree.LayerTree.value.Goals as goal

pub returns-clause-in_range : goal.returns-clause-in_range
returns-clause-in_range c =
    subst IsOffset (sym (c.value_in.ensures ∙ ap (λ (vs : List (ℕ × Point)). or_origin (find c.args.id vs)) c.as_slice.ensures.value)) (values-offset c.args.id c.self.inside.props.scrollers c.self.inside.values.items c.self.invariant.values)
