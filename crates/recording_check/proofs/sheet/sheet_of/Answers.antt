-- The layer lies where it is placed, in its groups.
use Rattle.std.proofs.Common.{◌≡◌, All, ap, subst, ◌∙◌}
use Rattle.page_properties.specs.Trees.{Trees as Props}
use Rattle.page_layers.specs.declared.paint.Group.{Group}
use Rattle.page_layers.specs.TreePainting.{groups_in, opacity_in}
use Rattle.recording_check.proofs.sheet.sheet_of.Goals as goal

pub returns : goal.returns
returns c =
    let props = c.props-props.ensures in
    record {
      colours = c.in_ok-own.ensures;
      groups = c.in_ok-groups.ensures.effects ∙ ap (λ (t : Props). groups_in t.effects c.args.layer.now.effect) props;
      opacities = subst (λ (t : Props). All (λ (g : Group). opacity_in t.effects g.effect ≡ g.opacity) c.in_ok-groups.groups.items) props c.in_ok-groups.ensures.opacities;
    }
